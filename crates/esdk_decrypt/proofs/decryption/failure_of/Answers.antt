use Rattle.std.proofs.Common.{refl}
use Rattle.esdk_decrypt.proofs.decryption.failure_of.Goals as goal

pub returns : goal.returns
returns g c = rw c.in-Receiver.is refl
