use Rattle.plane_core.proofs.WideLanes.{lane_joined, lane_joined_high}
use Rattle.plane_core.proofs.sixteen.joined.Goals as goal

pub returns-clause-low : goal.returns-clause-low
returns-clause-low c j h = lane_joined c.args.low c.args.high c.fits-low.0 j h

pub returns-clause-high : goal.returns-clause-high
returns-clause-high c j h = lane_joined_high c.args.low c.args.high c.fits-low.0 j h
