use Rattle.keyring_trait.proofs.Least.{names_mismatch}
use Rattle.keyring_trait.proofs.laws.the_least_clashing_key_is_named.Goals as goal

pub returns : goal.returns
returns c = names_mismatch
