use Rattle.keyring_trait.proofs.Least.{names_missing}
use Rattle.keyring_trait.proofs.laws.the_least_missing_key_is_named.Goals as goal

pub returns : goal.returns
returns c = names_missing
