use Rattle.std.proofs.Common.{arith}
use Rattle.aes_core.proofs.key.Key256.turn_to.Goals as goal

pub returns-else-page-count-clause-quad : goal.returns-else-page-count-clause-quad
returns-else-page-count-clause-quad c = omega arith
