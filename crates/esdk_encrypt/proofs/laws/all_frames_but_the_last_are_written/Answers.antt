use Rattle.stream_seal.specs.Feeding.{frames_given}
use Rattle.stream_seal.proofs.GivenFrames.{are_given, least_is}
use Rattle.esdk_encrypt.proofs.laws.all_frames_but_the_last_are_written.Goals as goal

pub returns : goal.returns
returns c = λ count size wide. least_is count size (frames_given count size) wide (are_given count size wide)
