use Rattle.reseal_core.proofs.RandomBytes.{one_random}
use Rattle.reseal_core.proofs.laws.random_bytes_are_kept.Goals as goal

pub returns : goal.returns
returns c = λ resealer v w one other going. one_random resealer v w one other going
