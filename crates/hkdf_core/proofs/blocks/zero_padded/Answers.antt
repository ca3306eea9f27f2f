-- What the copy leaves of the zeros stands after the key.
use Rattle.std.proofs.Common.{refl}
use Rattle.std.proofs.lemmas.List.{drop-replicate}
use Rattle.cipher_spec.specs.Hmac.{zero_padded}
use Rattle.hkdf_core.proofs.blocks.zero_padded.Goals as goal

pub returns : goal.returns
unfolding zero_padded
returns g c = rw (c.copy_from_slice.ensures.after, drop-replicate) refl
