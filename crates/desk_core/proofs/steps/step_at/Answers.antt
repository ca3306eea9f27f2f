-- The machine of this number makes the step; it is written back, and taken out after an error.
use Rattle.std.proofs.Common.{Ok, Err, sym, subst, rules}
use Rattle.std.specs.BTreeMap.{get}
use Rattle.std.specs.Box.{with_value}
use Rattle.std.specs.Global.{Box}
use Rattle.std.specs.Ordering.{nat_cmp}
use Rattle.desk_core.specs.declared.session.Session.{Session}
use Rattle.desk_core.specs.Stands.{StandsFor}
use Rattle.desk_core.proofs.Live.{steps_at, taken_out}
use Rattle.desk_core.proofs.steps.step_at.Goals as goal

pub returns-in-Ok-clause-steps : goal.returns-in-Ok-clause-steps
returns-in-Ok-clause-steps g c = λ live alive.
    let next : Box Session = with_value c.in-Some.session.now c.step-answer.new.session in
    let written = (c.get_mut.follows.holds next).3 (search rules) in
    steps_at _ _ live c.args.id c.args.now c.args.piece.now (Ok c.in-Ok.used) c.args.sessions.now (c.get_mut.follows.lender next) c.in-Some.session.now next
    c.args.journal.now.items c.step-answer.new.journal.items alive c.in-Some.ensures.value
    (λ s stands. c.in-Ok.ensures.steps s (subst (λ (m : Session). StandsFor m s) (sym c.deref_mut.ensures.value) stands)) written.0

pub returns-in-Err-clause-steps : goal.returns-in-Err-clause-steps
returns-in-Err-clause-steps g c = λ live alive.
    let next : Box Session = with_value c.in-Some.session.now c.step-answer.new.session in
    let written = (c.get_mut.follows.holds next).3 (search rules) in
    steps_at _ _ live c.args.id c.args.now c.args.piece.now (Err c.in-Err.error) c.args.sessions.now c.remove.new.self c.in-Some.session.now next
    c.args.journal.now.items c.step-answer.new.journal.items alive c.in-Some.ensures.value
    (λ s stands. c.in-Err.ensures.steps s (subst (λ (m : Session). StandsFor m s) (sym c.deref_mut.ensures.value) stands))
    (λ q. taken_out _ (get nat_cmp c.args.sessions.now q) _ _ _ (written.0 q) (c.remove.ensures.updates.0 q))
