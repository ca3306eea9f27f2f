use Rattle.context_codec.proofs.Written.{spells_written}
use Rattle.context_codec.proofs.laws.written_contexts_are_read.Goals as goal

pub returns : goal.returns
returns c = spells_written
