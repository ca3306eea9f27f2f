use Rattle.context_codec.proofs.KeySets.{AreAscendingKeys-with_key}
use Rattle.context_codec.proofs.laws.one_more_key_keeps_the_order.Goals as goal

pub returns : goal.returns
returns c = AreAscendingKeys-with_key
