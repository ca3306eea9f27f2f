use Rattle.keyring_trait.proofs.Unlocking.{unlocks_stored}
use Rattle.keyring_trait.proofs.laws.what_was_stored_is_unlocked.Goals as goal

pub returns : goal.returns
returns c = unlocks_stored
