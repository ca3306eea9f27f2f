-- There are enough output blocks.
use Rattle.cipher_spec.proofs.HkdfLemmas.{length-hkdf256, length-hkdf512}
use Rattle.cipher_spec.proofs.hkdf.hkdf_length.Goals as goal

pub returns : goal.returns
returns c = record { short = length-hkdf256; long = length-hkdf512 }
