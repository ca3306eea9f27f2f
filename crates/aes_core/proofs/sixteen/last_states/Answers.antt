use Rattle.std.proofs.Common.{◌%◌, arith}
use Rattle.cipher_spec.specs.Aes.{word_at}
use Rattle.plane_core.specs.Places.{lane_bit}
use Rattle.aes_core.proofs.KeyPlanes.{later_key, round_more, after_rounds}
use Rattle.aes_core.proofs.sixteen.last_states.Goals as goal

pub each-init : goal.each-init
each-init c schedule x b has is = is

pub each-preserved : goal.each-preserved
each-preserved c schedule x b has is =
    round_more schedule _ _ x c.each.r (omega arith)
    (c.round-next.ensures b (word_at schedule c.each.r) (later_key lane_bit 8 c.args.keys.now schedule has c.each.r (b % 8) (omega arith) (omega arith) (omega arith) _))
    (c.each.invariant schedule x b has is)

pub returns : goal.returns
returns c schedule x b has is =
    after_rounds schedule _ _ x c.each.r (omega arith)
    (c.last_round.ensures b (word_at schedule 14) (later_key lane_bit 8 c.args.keys.now schedule has 14 (b % 8) (omega arith) (omega arith) (omega arith) _))
    (c.each.invariant schedule x b has is)
