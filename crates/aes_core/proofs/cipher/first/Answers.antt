use Rattle.std.proofs.Common.{get_or, bit_xor, ◌∙◌}
use Rattle.plane_core.proofs.States.{same_state}
use Rattle.aes_core.specs.Groups.{out_of_basis, state_in}
use Rattle.aes_core.proofs.cipher.first.Goals as goal

pub returns : goal.returns
unfolding state_in
returns c =
    same_state (λ j. out_of_basis (get_or c.in_basis.result j 0)) (λ j. bit_xor (get_or c.args.x j 0) (get_or c.args.k j 0)) (λ j h.
    c.in_basis.ensures j h ∙ c.sum.ensures.lanes j h)
