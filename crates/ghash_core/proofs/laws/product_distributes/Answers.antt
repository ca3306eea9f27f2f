use Rattle.ghash_core.proofs.Ring.{times-sum, times-sum_right}
use Rattle.ghash_core.proofs.laws.product_distributes.Goals as goal

pub returns : goal.returns
returns c = record { left = times-sum; right = times-sum_right }
