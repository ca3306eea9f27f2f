-- Counter mode keeps the length.
use Rattle.cipher_spec.proofs.GcmLemmas.{length-cipher_of}
use Rattle.cipher_spec.proofs.gcm.ciphertext_length.Goals as goal

pub returns : goal.returns
returns c = length-cipher_of
