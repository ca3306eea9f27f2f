use Rattle.ghash_core.proofs.Ring.{times-lt}
use Rattle.ghash_core.proofs.laws.product_is_a_block.Goals as goal

pub returns : goal.returns
returns c = times-lt
