use Rattle.std.proofs.Common.{◌∙◌, List, ℕ, ◌++◌, refl, sym, subst}
use Rattle.c_session.specs.Resealing.{SessionReseals}
use Rattle.c_session.proofs.Resealings.{piece_as, same_some}
use Rattle.c_session.proofs.resealing.feed_resealer.Goals as goal

pub returns-clause-reseals : goal.returns-clause-reseals
returns-clause-reseals g c = λ how begun first sealing taken given there so.
    let same = same_some sealing c.in-Some.manager (sym there ∙ c.in-Some.is) in
    let here = subst (λ (b : g.row.B.Denot). SessionReseals g.A.Manager.state g.B.Manager.state how begun c.args.opening.now first b (c.args.resealer.now, c.args.wraps) taken (given ++ c.replace.result))
    same (subst (λ (w : List ℕ). SessionReseals g.A.Manager.state g.B.Manager.state how begun c.args.opening.now first sealing (c.args.resealer.now, c.args.wraps) taken (given ++ w)) (sym c.replace.ensures.value) so) in
    record {
      sealing = c.feed_tray-fed.new.sealing;
      is_there = refl;
      comes = piece_as g.A.Manager.state g.B.Manager.state how begun c.args.opening.now c.feed_tray-fed.new.opening first c.in-Some.manager c.feed_tray-fed.new.sealing
          taken c.args.piece.now given c.replace.result c.feed_tray-fed.new.tray.waiting c.args.resealer.now c.feed_tray-fed.new.resealer c.args.wraps here
          c.feed_tray-fed.ensures.opening c.feed_tray-fed.ensures.sealing c.feed_tray-fed.result
          (c.feed_tray-fed.ensures.on how begun first taken given here.so_far) (c.feed_tray-fed.ensures.not how begun first taken given here.so_far);
    }
