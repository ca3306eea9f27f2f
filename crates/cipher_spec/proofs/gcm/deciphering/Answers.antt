-- Counter mode undoes itself.
use Rattle.cipher_spec.proofs.GcmLemmas.{cipher_of_twice}
use Rattle.cipher_spec.proofs.gcm.deciphering.Goals as goal

pub returns : goal.returns
returns c = cipher_of_twice
