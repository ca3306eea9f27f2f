use Rattle.frame_codec.proofs.Answering.{decides}
use Rattle.frame_codec.proofs.laws.needed_bytes_decide.Goals as goal

pub returns : goal.returns
returns c = decides
