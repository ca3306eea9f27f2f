use Rattle.keyring_trait.proofs.Wrapping.{unwraps_none}
use Rattle.keyring_trait.proofs.laws.none_is_unwrapped.Goals as goal

pub returns : goal.returns
returns c = unwraps_none
