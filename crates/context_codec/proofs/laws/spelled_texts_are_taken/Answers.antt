use Rattle.context_codec.proofs.Verdicts.{takes_texts}
use Rattle.context_codec.proofs.laws.spelled_texts_are_taken.Goals as goal

pub returns : goal.returns
returns c = takes_texts
