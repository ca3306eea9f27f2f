use Rattle.plane_core.specs.Places.{lane_bit}
use Rattle.aes_core.proofs.Constants.{plane_last_round, shifted_first}
use Rattle.aes_core.proofs.eight.last_round.Goals as goal

pub returns : goal.returns
returns c b k e =
    plane_last_round lane_bit c.args.s.now c.keyed.result c.args.key.now _ b k
    (shifted_first lane_bit c.args.s.now c.shifted.result c.sub_bytes.result b c.shifted.ensures c.sub_bytes.ensures) (c.keyed.ensures b) e
