use Rattle.std.proofs.Common.{arith}
use Rattle.plane_core.specs.Places.{lane}
use Rattle.plane_core.proofs.Lanes.{lane_moved, lanes_picked}
use Rattle.plane_core.proofs.eight.exchanged.Goals as goal

pub returns-clause-lanes : goal.returns-clause-lanes
returns-clause-lanes c j h = lane_moved 16 lane c.args.v c.fits-v.0 j h (omega arith)

pub returns-clause-bytes : goal.returns-clause-bytes
returns-clause-bytes c = lanes_picked 16 lane c.args.v c.fits-v.0 c.fits-v.1 (λ j h. omega arith)
