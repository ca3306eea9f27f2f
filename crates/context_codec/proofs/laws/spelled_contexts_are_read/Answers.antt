use Rattle.context_codec.proofs.Verdicts.{reads_spelled}
use Rattle.context_codec.proofs.laws.spelled_contexts_are_read.Goals as goal

pub returns : goal.returns
returns c = reads_spelled
