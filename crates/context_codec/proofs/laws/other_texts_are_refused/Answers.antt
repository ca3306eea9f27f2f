use Rattle.context_codec.proofs.Verdicts.{refuses_other_texts}
use Rattle.context_codec.proofs.laws.other_texts_are_refused.Goals as goal

pub returns : goal.returns
returns c = refuses_other_texts
