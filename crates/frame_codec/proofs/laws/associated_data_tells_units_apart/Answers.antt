use Rattle.frame_codec.proofs.AadLemmas.{tells_apart}
use Rattle.frame_codec.proofs.laws.associated_data_tells_units_apart.Goals as goal

pub returns : goal.returns
returns c = tells_apart
