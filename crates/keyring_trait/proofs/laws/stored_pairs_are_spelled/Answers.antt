use Rattle.context_codec.proofs.Stored.{stored_is}
use Rattle.keyring_trait.proofs.laws.stored_pairs_are_spelled.Goals as goal

pub returns : goal.returns
returns c = stored_is
