use Rattle.frame_codec.proofs.Answering.{asks_for_more}
use Rattle.frame_codec.proofs.FaultyUnits.{names_faults}
use Rattle.frame_codec.proofs.laws.heads_are_judged_by_rows.Goals as goal

pub returns-clause-more : goal.returns-clause-more
returns-clause-more c = asks_for_more

pub returns-clause-faults : goal.returns-clause-faults
returns-clause-faults c = names_faults
