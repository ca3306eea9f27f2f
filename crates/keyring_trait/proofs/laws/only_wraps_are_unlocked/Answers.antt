use Rattle.keyring_trait.proofs.Unlocking.{unlocks_only_wraps}
use Rattle.keyring_trait.proofs.laws.only_wraps_are_unlocked.Goals as goal

pub returns : goal.returns
returns c = unlocks_only_wraps
