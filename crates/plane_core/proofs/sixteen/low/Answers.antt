use Rattle.std.proofs.Common.{◌∙◌, ap, get_or, ◌≡◌, ◌+◌, arith}
use Rattle.plane_core.proofs.WideLanes.{lane_cut}
use Rattle.plane_core.proofs.sixteen.low.Goals as goal

pub returns : goal.returns
returns c j h =
    let e : 0 + j ≡ j = omega arith in
    lane_cut c.args.v c.fits-v.0 0 j (omega arith) h ∙ ap (λ k. get_or c.args.v k 0) e
