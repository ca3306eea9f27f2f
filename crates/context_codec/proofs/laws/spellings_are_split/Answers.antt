use Rattle.context_codec.proofs.Verdicts.{splits_spellings}
use Rattle.context_codec.proofs.laws.spellings_are_split.Goals as goal

pub returns : goal.returns
returns c = splits_spellings
