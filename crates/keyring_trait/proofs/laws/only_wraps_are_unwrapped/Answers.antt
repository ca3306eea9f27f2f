use Rattle.keyring_trait.proofs.Wrapping.{unwraps_only_wraps}
use Rattle.keyring_trait.proofs.laws.only_wraps_are_unwrapped.Goals as goal

pub returns : goal.returns
returns c = unwraps_only_wraps
