use Rattle.context_codec.proofs.Whole.{whole_is}
use Rattle.context_codec.proofs.laws.stored_and_given_pairs_are_joined.Goals as goal

pub returns : goal.returns
returns c = whole_is
