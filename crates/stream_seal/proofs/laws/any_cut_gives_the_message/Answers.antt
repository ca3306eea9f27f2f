use Rattle.stream_seal.proofs.AnyCut.{any_cut}
use Rattle.stream_seal.proofs.laws.any_cut_gives_the_message.Goals as goal

pub returns : goal.returns
returns c = any_cut
