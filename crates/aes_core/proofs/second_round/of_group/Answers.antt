use Rattle.std.proofs.lemmas.Simd.{zip2_splat}
use Rattle.aes_core.proofs.second_round.of_group.Goals as goal

pub returns : goal.returns
returns c = zip2_splat _ c.args.from 16 c.args.t c.fits-from.0
