use Rattle.keyring_trait.proofs.Made.{made_is_wrapped}
use Rattle.keyring_trait.proofs.laws.what_is_made_is_wrapped.Goals as goal

pub returns : goal.returns
returns c = made_is_wrapped
