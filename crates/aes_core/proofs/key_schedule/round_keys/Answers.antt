use Rattle.std.proofs.Common.{refl}
use Rattle.cipher_spec.specs.Aes.{round_keys}
use Rattle.aes_core.proofs.key_schedule.round_keys.Goals as goal

pub returns : goal.returns
unfolding round_keys
returns c = rw (c.cut.ensures, c.key_expansion.ensures) refl
