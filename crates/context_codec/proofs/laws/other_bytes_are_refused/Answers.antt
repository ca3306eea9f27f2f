use Rattle.context_codec.proofs.Verdicts.{refuses_other_bytes}
use Rattle.context_codec.proofs.laws.other_bytes_are_refused.Goals as goal

pub returns : goal.returns
returns c = refuses_other_bytes
