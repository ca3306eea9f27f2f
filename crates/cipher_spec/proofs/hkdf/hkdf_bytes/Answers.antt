-- Each output block is an HMAC.
use Rattle.cipher_spec.proofs.HkdfLemmas.{bytes-hkdf256, bytes-hkdf512}
use Rattle.cipher_spec.proofs.hkdf.hkdf_bytes.Goals as goal

pub returns : goal.returns
returns c = record { short = bytes-hkdf256; long = bytes-hkdf512 }
