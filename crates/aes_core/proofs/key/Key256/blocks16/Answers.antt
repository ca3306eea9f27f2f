use Rattle.std.proofs.Common.{refl, ◌∙◌}
use Rattle.cipher_spec.specs.Aes.{aes}
use Rattle.aes_core.proofs.key.Key256.blocks16.Goals as goal

pub returns : goal.returns
unfolding aes
returns c = c.cipher.ensures _ c.self.invariant.1 ∙ rw c.self.view_is refl
