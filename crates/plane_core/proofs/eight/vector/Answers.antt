use Rattle.std.proofs.Common.{◌≡◌, ap, get_or, ◌∙◌, arith}
use Rattle.plane_core.specs.Places.{lane}
use Rattle.plane_core.proofs.eight.vector.Goals as goal

pub returns-clause-lanes : goal.returns-clause-lanes
returns-clause-lanes c j h =
    let i : lane (lane j) ≡ j = omega arith in
    c.exchanged.ensures.lanes (lane j) (omega arith) ∙ ap (λ k. get_or c.args.x k 0) i
