use Rattle.edk_codec.proofs.Entry.{entry_not_refused}
use Rattle.edk_codec.proofs.laws.an_entry_is_never_refused.Goals as goal

pub returns : goal.returns
returns c = λ p fault at r. entry_not_refused p fault at r
