use Rattle.std.proofs.Common.{ap, ◌∙◌}
use Rattle.cipher_spec.specs.Aes.{round}
use Rattle.aes_core.specs.Counters.{without_column}
use Rattle.aes_core.proofs.Groups.{lanes_of_state, state_of_lanes}
use Rattle.aes_core.proofs.cipher.round_without_column.Goals as goal

pub returns : goal.returns
returns c key is =
    lanes_of_state c.round.result c.out_of_basis.result c.out_of_basis.ensures.long c.out_of_basis.ensures.lanes
    ∙ c.round.ensures key is ∙ ap (λ s. round s key) (state_of_lanes c.in_basis.result (without_column c.args.s) c.in_basis.ensures)
