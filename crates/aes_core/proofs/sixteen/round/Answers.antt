use Rattle.std.proofs.Common.{◌∙◌}
use Rattle.plane_core.specs.Places.{wide_bit}
use Rattle.aes_core.proofs.Constants.{plane_round, shifted_first}
use Rattle.aes_core.proofs.sixteen.round.Goals as goal

pub returns : goal.returns
returns c b k e =
    plane_round wide_bit c.args.s.now c.mixed_and_keyed.result c.twice.result _ b k
    (shifted_first wide_bit c.args.s.now c.shifted.result c.sub_bytes.result b c.shifted.ensures c.sub_bytes.ensures) (c.mixed_and_keyed.ensures b) (c.twice.ensures b ∙ e)
