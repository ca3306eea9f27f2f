use Rattle.std.proofs.Common.{refl}
use Rattle.reseal_core.proofs.new_message.put_as.Goals as goal

pub returns-in-Err-Machine-Refusal : goal.returns-in-Err-Machine-Refusal
returns-in-Err-Machine-Refusal c = rw (c.in-Err-Machine-Refusal.is, c.in-Err-Machine-Refusal.field-0-is, c.in-Err-Machine-Refusal.field-0-0-is) refl
