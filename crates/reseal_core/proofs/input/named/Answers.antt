use Rattle.std.proofs.Common.{refl}
use Rattle.reseal_core.proofs.input.named.Goals as goal

pub returns-in-Fault : goal.returns-in-Fault
returns-in-Fault c = rw c.in-Fault.is refl
