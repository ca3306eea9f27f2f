use Rattle.std.proofs.Common.{arith}
use Rattle.ghash_core.proofs.Lanes.{lane_cut}
use Rattle.ghash_core.proofs.vector.upper_words.Goals as goal

pub returns : goal.returns
returns c l h = lane_cut c.args.v c.fits-v.0 2 l (omega arith) h
