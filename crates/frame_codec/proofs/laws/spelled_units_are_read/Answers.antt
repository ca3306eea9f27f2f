use Rattle.frame_codec.proofs.SpelledUnits.{reads_spelled}
use Rattle.frame_codec.proofs.laws.spelled_units_are_read.Goals as goal

pub returns : goal.returns
returns c = reads_spelled
