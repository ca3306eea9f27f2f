use Rattle.std.proofs.Common.{◌%◌, arith}
use Rattle.plane_core.specs.Places.{shifted, wide_lane}
use Rattle.plane_core.proofs.Lanes.{bit_moved, row_shifted}
use Rattle.plane_core.proofs.WideLanes.{in_each_half, wide_shifted}
use Rattle.plane_core.proofs.plane.U8x32Plane.shifted.Goals as goal

pub returns : goal.returns
returns c j b h = bit_moved 32 (in_each_half row_shifted) c.args.self c.fits-self.0 (wide_lane j b) (wide_lane (shifted j) b) (b % 8) (omega arith) (wide_shifted j b h) (omega arith)
