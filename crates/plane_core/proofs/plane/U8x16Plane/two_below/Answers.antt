use Rattle.std.proofs.Common.{arith}
use Rattle.plane_core.specs.Places.{below, lane}
use Rattle.plane_core.proofs.Lanes.{bit_moved, rows_below, lane_below_2}
use Rattle.plane_core.proofs.plane.U8x16Plane.two_below.Goals as goal

pub returns : goal.returns
returns c j b h = bit_moved 16 (rows_below 2) c.args.self c.fits-self.0 (lane j) (lane (below 2 j)) b (omega arith) (lane_below_2 j h) (omega arith)
