use Rattle.esdk_gen.proofs.Told.{generated_is_whole}
use Rattle.esdk_gen.proofs.laws.generated_messages_open.Goals as goal

pub returns : goal.returns
returns c = λ seed size few. generated_is_whole seed size few
