use Rattle.std.proofs.Common.{◌≡◌, ◌+◌, get_or, ap, ◌∙◌, arith}
use Rattle.ghash_core.proofs.Lanes.{lane_cut}
use Rattle.ghash_core.proofs.vector.lower_words.Goals as goal

pub returns : goal.returns
returns c l h =
    let e : 0 + l ≡ l = omega arith in
    lane_cut c.args.v c.fits-v.0 0 l (omega arith) h ∙ ap (λ k. get_or c.args.v k 0) e
