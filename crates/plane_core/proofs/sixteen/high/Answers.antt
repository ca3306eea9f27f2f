use Rattle.std.proofs.Common.{arith}
use Rattle.plane_core.proofs.WideLanes.{lane_cut}
use Rattle.plane_core.proofs.sixteen.high.Goals as goal

pub returns : goal.returns
returns c j h = lane_cut c.args.v c.fits-v.0 16 j (omega arith) h
