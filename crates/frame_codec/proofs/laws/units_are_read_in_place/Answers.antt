use Rattle.frame_codec.proofs.InPlace.{read_in_place}
use Rattle.frame_codec.proofs.laws.units_are_read_in_place.Goals as goal

pub returns : goal.returns
returns c = read_in_place
