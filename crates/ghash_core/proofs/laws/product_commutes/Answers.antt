use Rattle.ghash_core.proofs.Ring.{times-commutes}
use Rattle.ghash_core.proofs.laws.product_commutes.Goals as goal

pub returns : goal.returns
returns c = times-commutes
