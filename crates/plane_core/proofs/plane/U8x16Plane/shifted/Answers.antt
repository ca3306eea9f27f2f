use Rattle.std.proofs.Common.{arith}
use Rattle.plane_core.specs.Places.{shifted, lane}
use Rattle.plane_core.proofs.Lanes.{bit_moved, row_shifted, lane_shifted}
use Rattle.plane_core.proofs.plane.U8x16Plane.shifted.Goals as goal

pub returns : goal.returns
returns c j b h = bit_moved 16 row_shifted c.args.self c.fits-self.0 (lane j) (lane (shifted j)) b (omega arith) (lane_shifted j h) (omega arith)
