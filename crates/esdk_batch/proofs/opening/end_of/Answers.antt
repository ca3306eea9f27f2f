use Rattle.std.proofs.Common.{refl}
use Rattle.esdk_batch.proofs.opening.end_of.Goals as goal

pub returns-in-Fault : goal.returns-in-Fault
returns-in-Fault c = rw c.in-Fault.is refl
