use Rattle.keyring_trait.proofs.Back.{ivs_are}
use Rattle.keyring_trait.proofs.laws.drawn_bytes_are_ivs.Goals as goal

pub returns : goal.returns
returns c = ivs_are
