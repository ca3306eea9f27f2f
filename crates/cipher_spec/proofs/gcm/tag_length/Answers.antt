-- A tag is a block, enciphered in counter mode.
use Rattle.cipher_spec.proofs.GcmLemmas.{length-tag_of}
use Rattle.cipher_spec.proofs.gcm.tag_length.Goals as goal

pub returns : goal.returns
returns c = length-tag_of
