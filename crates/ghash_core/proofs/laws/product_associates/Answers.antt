use Rattle.ghash_core.proofs.Ring.{times-associates}
use Rattle.ghash_core.proofs.laws.product_associates.Goals as goal

pub returns : goal.returns
returns c = times-associates
