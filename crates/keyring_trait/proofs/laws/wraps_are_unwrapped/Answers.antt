use Rattle.keyring_trait.proofs.Wrapping.{unwraps_wraps}
use Rattle.keyring_trait.proofs.laws.wraps_are_unwrapped.Goals as goal

pub returns : goal.returns
returns c = unwraps_wraps
