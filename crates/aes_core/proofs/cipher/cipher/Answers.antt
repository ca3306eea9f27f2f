use Rattle.std.proofs.Common.{refl, arith}
use Rattle.cipher_spec.specs.Aes.{word_at}
use Rattle.aes_core.proofs.KeyPlanes.{before_rounds, round_more, after_rounds}
use Rattle.aes_core.proofs.cipher.cipher.Goals as goal

pub rounds-init : goal.rounds-init
rounds-init c schedule has = before_rounds schedule _ c.args.x c.args.x _ c.first-state.ensures refl has.is_first

pub rounds-preserved : goal.rounds-preserved
rounds-preserved c schedule has =
    let r = c.rounds.r in
    round_more schedule _ _ c.args.x r (omega arith) (c.round-next.ensures (word_at schedule r) (has.is_inner r (omega arith) (omega arith))) (c.rounds.invariant schedule has)

pub returns : goal.returns
returns c schedule has =
    after_rounds schedule _ _ c.args.x c.rounds.r (omega arith) (c.last_round.ensures (word_at schedule 14) has.is_last) (c.rounds.invariant schedule has)
