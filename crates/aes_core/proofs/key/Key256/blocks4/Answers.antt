use Rattle.std.proofs.Common.{refl, ◌∙◌}
use Rattle.cipher_spec.specs.Aes.{aes}
use Rattle.aes_core.proofs.key.Key256.blocks4.Goals as goal

pub returns : goal.returns
unfolding aes
returns c = c.cipher_four.ensures _ c.self.invariant.0 ∙ rw c.self.view_is refl
