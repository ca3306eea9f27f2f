use Rattle.frame_codec.proofs.FaultyUnits.{refuses_faulty}
use Rattle.frame_codec.proofs.laws.faulty_units_are_refused.Goals as goal

pub returns : goal.returns
returns c = refuses_faulty
