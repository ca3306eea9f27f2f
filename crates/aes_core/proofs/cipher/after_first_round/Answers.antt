use Rattle.std.proofs.Common.{ap, ◌∙◌, arith}
use Rattle.cipher_spec.specs.Aes.{add_round_key, round, word_at}
use Rattle.aes_core.proofs.Groups.{lanes_of_state}
use Rattle.aes_core.proofs.cipher.after_first_round.Goals as goal

pub returns : goal.returns
returns c schedule has =
    lanes_of_state c.round.result c.out_of_basis.result c.out_of_basis.ensures.long c.out_of_basis.ensures.lanes
    ∙ c.round.ensures (word_at schedule 1) (has.is_inner 1 (omega arith) (omega arith))
    ∙ ap (λ s. round s (word_at schedule 1)) (c.first.ensures ∙ ap (add_round_key c.args.x) has.is_first)
