use Rattle.context_codec.proofs.Least.{least_of_keys}
use Rattle.context_codec.proofs.laws.the_least_key_is_found.Goals as goal

pub returns : goal.returns
returns c = least_of_keys
