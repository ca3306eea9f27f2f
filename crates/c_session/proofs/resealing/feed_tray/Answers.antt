use Rattle.std.proofs.Common.{ℕ, ◌+◌, ◌-◌, ◌≤◌, List, ◌++◌, length, take, sym, subst, arith, append-nil}
use Rattle.std.proofs.lemmas.List.{take_all}
use Rattle.keyring_trait.proofs.Going.{went_on}
use Rattle.c_session.specs.Resealing.{ResealEndsFor, ResealsSoFar, how_asked}
use Rattle.c_session.proofs.Resealings.{all_taken, more_taken, rest_long}
use Rattle.c_session.proofs.resealing.feed_tray.Goals as goal

pub steps-init : goal.steps-init
steps-init g c = record {
  within = omega arith;
  none = c.requires.none;
  ready = c.requires.ready;
  opening = c.wraps-opening.ensures.stays;
  sealing = c.wraps-sealing.ensures.stays;
  so_far = λ how begun first taken given so.
      subst (λ (b : List ℕ). ResealsSoFar g.A.Manager.state g.B.Manager.state how begun c.args.opening.now first c.args.sealing.now c.args.resealer.now b (given ++ c.args.tray.now.waiting))
      (sym (append-nil taken)) so;
}

pub steps-smaller : goal.steps-smaller
steps-smaller g c = omega (arith, c.in-Ok.ensures.some, c.steps-test.true)

pub steps-preserved : goal.steps-preserved
steps-preserved g c =
    let i = c.steps.invariant in
    let room : ℕ = c.steps.fed + c.min-room.result - c.steps.fed in
    let most : room ≤ length c.args.piece.now - c.steps.fed = omega (arith, c.min-room.ensures) in
    let long = rest_long c.args.piece.now c.steps.fed room c.steps-test.true most in
    let used : c.in-Ok.used ≤ room = omega (arith, long, c.in-Ok.ensures.within) in
    record {
      within = omega (arith, used, most, c.steps-test.true);
      none = c.in-Ok.ensures.none;
      ready = c.step_tray.ensures.ready;
      opening = went_on _ _ _ i.opening c.step_tray.ensures.opening;
      sealing = went_on _ _ _ i.sealing c.step_tray.ensures.sealing;
      so_far = λ how begun first taken given so.
          subst (λ (b : List ℕ). ResealsSoFar g.A.Manager.state g.B.Manager.state how begun c.step_tray.new.opening first c.step_tray.new.sealing c.step_tray.new.resealer b (given ++ c.step_tray.new.tray.waiting))
          (more_taken c.args.piece.now c.steps.fed room c.steps-test.true most taken c.in-Ok.used used)
          (c.in-Ok.ensures.on how begun first (taken ++ take c.steps.fed c.args.piece.now) given (i.so_far how begun first taken given so));
    }

pub returns-in-Err-clause-not : goal.returns-in-Err-clause-not
returns-in-Err-clause-not g c = λ how begun first taken given so.
    let room : ℕ = c.steps.fed + c.min-room.result - c.steps.fed in
    let most : room ≤ length c.args.piece.now - c.steps.fed = omega (arith, c.min-room.ensures) in
    record {
      count = c.steps.fed + room;
      within = omega (arith, most, c.steps-test.true);
      ends = subst (λ (b : List ℕ). ResealEndsFor (how_asked how (g.A.Manager.state begun) (g.A.Manager.state c.step_tray.new.opening) (g.B.Manager.state first) (g.B.Manager.state c.step_tray.new.sealing))
          how.random b (given ++ c.step_tray.new.tray.waiting) c.in-Err.reason)
          (all_taken c.args.piece.now c.steps.fed room c.steps-test.true most taken)
          (c.in-Err.ensures.not how begun first (taken ++ take c.steps.fed c.args.piece.now) given (c.steps.invariant.so_far how begun first taken given so));
    }

pub returns-clause-on : goal.returns-clause-on
returns-clause-on g c = λ how begun first taken given so.
    rw (take_all c.steps.fed c.args.piece.now c.steps-test.false) at (c.steps.invariant.so_far how begun first taken given so)
