use Rattle.ghash_core.proofs.Ring.{times-one}
use Rattle.ghash_core.proofs.laws.product_has_a_one.Goals as goal

pub returns : goal.returns
returns c = times-one
