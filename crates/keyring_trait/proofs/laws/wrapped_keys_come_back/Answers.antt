use Rattle.keyring_trait.proofs.Back.{comes_back}
use Rattle.keyring_trait.proofs.laws.wrapped_keys_come_back.Goals as goal

pub returns : goal.returns
returns c = comes_back
