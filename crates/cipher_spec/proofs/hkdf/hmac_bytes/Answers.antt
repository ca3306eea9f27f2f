-- An HMAC is a digest.
use Rattle.cipher_spec.proofs.HmacLemmas.{bytes-hmac256, bytes-hmac512}
use Rattle.cipher_spec.proofs.hkdf.hmac_bytes.Goals as goal

pub returns : goal.returns
returns c = record { short = bytes-hmac256; long = bytes-hmac512 }
