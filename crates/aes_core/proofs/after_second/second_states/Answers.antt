use Rattle.std.proofs.Common.{[], get_or, arith}
use Rattle.cipher_spec.specs.Aes.{word_at}
use Rattle.plane_core.specs.Places.{lane_bit}
use Rattle.aes_core.proofs.KeyPlanes.{before_rounds, first_key, later_key, round_more}
use Rattle.aes_core.proofs.after_second.second_states.Goals as goal

pub returns : goal.returns
returns c schedule b has h =
    let keys = c.args.keys.now in
    let x = get_or c.args.x.now b [] in
    round_more schedule _ _ x 2 (omega arith) (c.round-2.ensures b (word_at schedule 2) (later_key lane_bit 8 keys schedule has 2 b (omega arith) (omega arith) h _))
    (round_more schedule _ _ x 1 (omega arith) (c.round.ensures b (word_at schedule 1) (later_key lane_bit 8 keys schedule has 1 b (omega arith) (omega arith) h _))
    (before_rounds schedule _ x _ _ (c.keyed.ensures b) (c.loaded.ensures b h) (first_key lane_bit 8 keys schedule has b h _)))
