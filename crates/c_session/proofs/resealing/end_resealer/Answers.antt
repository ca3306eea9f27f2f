use Rattle.std.proofs.Common.{◌≡◌, ℕ, List, ◌++◌, false, refl, sym, ap, subst}
use Rattle.reseal_core.specs.Session.{gone_on, new_resealing_session}
use Rattle.c_session.specs.declared.tray.Tray.{Tray}
use Rattle.c_session.specs.Resealing.{SessionReseals}
use Rattle.c_session.proofs.Resealings.{finish_not, finish_whole}
use Rattle.c_session.proofs.resealing.end_resealer.Goals as goal

-- the tray before the end
abbrev held : List ℕ → Tray
held waiting = record { waiting = waiting; faults = 0 }

pub returns-in-Ok-clause-reseals : goal.returns-in-Ok-clause-reseals
returns-in-Ok-clause-reseals g c = λ how begun first sealing taken given there so.
    let here = (subst (λ (w : List ℕ). SessionReseals g.A.Manager.state g.B.Manager.state how begun c.args.opening.now first sealing (c.args.resealer.now, c.args.wraps) taken (given ++ w)) (sym c.replace.ensures.value) so).so_far in
    finish_whole g.A.Manager.state g.B.Manager.state how begun c.args.opening.now first sealing taken given c.replace.result c.finish-ended.new.output.waiting
    0 c.finish-ended.new.output.faults c.args.resealer.now here (c.finish-ended.new.output ≡ held c.replace.result)
    (c.in-Ok.ensures.finishes (gone_on (new_resealing_session how.settings how.pairs how.size how.random) here.fed.session here.materials) here.stands (refl {a = false}))

pub returns-in-Err-clause-reseals : goal.returns-in-Err-clause-reseals
returns-in-Err-clause-reseals g c = λ how begun first sealing taken given there so.
    let here = (subst (λ (w : List ℕ). SessionReseals g.A.Manager.state g.B.Manager.state how begun c.args.opening.now first sealing (c.args.resealer.now, c.args.wraps) taken (given ++ w)) (sym c.replace.ensures.value) so).so_far in
    rw c.unresealed.ensures
    (finish_not g.A.Manager.state g.B.Manager.state how begun c.args.opening.now first sealing taken given c.replace.result c.finish-ended.new.output.waiting
    0 c.finish-ended.new.output.faults c.args.resealer.now here (c.finish-ended.new.output ≡ held c.replace.result) (ap (λ (t : Tray). t.waiting)) c.in-Err.error
    (c.in-Err.ensures.finishes (gone_on (new_resealing_session how.settings how.pairs how.size how.random) here.fed.session here.materials) here.stands (refl {a = false})))
