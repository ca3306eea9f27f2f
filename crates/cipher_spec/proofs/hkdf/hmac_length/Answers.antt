-- An HMAC is a digest.
use Rattle.cipher_spec.proofs.HmacLemmas.{length-hmac256, length-hmac512}
use Rattle.cipher_spec.proofs.hkdf.hmac_length.Goals as goal

pub returns : goal.returns
returns c = record { short = length-hmac256; long = length-hmac512 }
