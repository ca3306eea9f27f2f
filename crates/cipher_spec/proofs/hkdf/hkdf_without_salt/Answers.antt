-- HMAC pads its key with zeros.
use Rattle.cipher_spec.proofs.HkdfLemmas.{hkdf256-no_salt, hkdf512-no_salt}
use Rattle.cipher_spec.proofs.hkdf.hkdf_without_salt.Goals as goal

pub returns : goal.returns
returns c = record { short = hkdf256-no_salt; long = hkdf512-no_salt }
