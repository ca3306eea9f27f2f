use Rattle.context_codec.proofs.KeySets.{Contains-with_key}
use Rattle.context_codec.proofs.laws.one_more_key_is_held.Goals as goal

pub returns : goal.returns
returns c = Contains-with_key
