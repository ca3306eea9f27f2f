use Rattle.ghash_core.proofs.Ring.{hash_by_powers}
use Rattle.ghash_core.proofs.laws.hash_by_powers.Goals as goal

pub returns : goal.returns
returns c = hash_by_powers
