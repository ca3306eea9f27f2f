use Rattle.std.proofs.Common.{refl, ◌∙◌}
use Rattle.cipher_spec.specs.Aes.{aes}
use Rattle.aes_core.proofs.key.Key256.blocks2.Goals as goal

pub returns : goal.returns
unfolding aes
returns c = c.cipher_two.ensures _ c.self.invariant.0 ∙ rw c.self.view_is refl
