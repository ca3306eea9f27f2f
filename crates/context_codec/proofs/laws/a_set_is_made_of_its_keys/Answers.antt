use Rattle.context_codec.proofs.KeySets.{with_keys-from_nil}
use Rattle.context_codec.proofs.laws.a_set_is_made_of_its_keys.Goals as goal

pub returns : goal.returns
returns c = with_keys-from_nil
