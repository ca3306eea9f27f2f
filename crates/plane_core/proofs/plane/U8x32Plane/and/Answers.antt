use Rattle.std.proofs.Common.{◌%◌}
use Rattle.plane_core.specs.Places.{wide_lane}
use Rattle.plane_core.proofs.Gates.{lanes_and}
use Rattle.plane_core.proofs.plane.U8x32Plane.and.Goals as goal

pub returns : goal.returns
returns c j b = lanes_and c.args.self c.args.other c.fits-self.0 c.fits-other.0 (wide_lane j b) (b % 8)
