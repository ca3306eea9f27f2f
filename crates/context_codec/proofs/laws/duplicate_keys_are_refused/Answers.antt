use Rattle.context_codec.proofs.Verdicts.{refuses_duplicates}
use Rattle.context_codec.proofs.laws.duplicate_keys_are_refused.Goals as goal

pub returns : goal.returns
returns c = refuses_duplicates
