use Rattle.std.proofs.Common.{◌%◌, arith}
use Rattle.plane_core.specs.Places.{below, wide_lane}
use Rattle.plane_core.proofs.Lanes.{bit_moved, rows_below}
use Rattle.plane_core.proofs.WideLanes.{in_each_half, wide_below_2}
use Rattle.plane_core.proofs.plane.U8x32Plane.two_below.Goals as goal

pub returns : goal.returns
returns c j b h = bit_moved 32 (in_each_half (rows_below 2)) c.args.self c.fits-self.0 (wide_lane j b) (wide_lane (below 2 j) b) (b % 8) (omega arith) (wide_below_2 j b h) (omega arith)
