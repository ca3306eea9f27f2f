use Rattle.keyring_trait.proofs.Wrapping.{unwrapped_key}
use Rattle.keyring_trait.proofs.laws.the_wrapped_key_is_unwrapped.Goals as goal

pub returns : goal.returns
returns c = unwrapped_key
