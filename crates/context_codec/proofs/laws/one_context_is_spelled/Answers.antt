use Rattle.context_codec.proofs.OneContext.{one_context}
use Rattle.context_codec.proofs.laws.one_context_is_spelled.Goals as goal

pub returns : goal.returns
returns c = one_context
