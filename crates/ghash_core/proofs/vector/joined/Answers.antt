use Rattle.ghash_core.proofs.Lanes.{lane_joined, lane_joined_high}
use Rattle.ghash_core.proofs.vector.joined.Goals as goal

pub returns-clause-low : goal.returns-clause-low
returns-clause-low c i h = lane_joined c.args.low c.args.high c.fits-low.0 i h

pub returns-clause-high : goal.returns-clause-high
returns-clause-high c i h = lane_joined_high c.args.low c.args.high c.fits-low.0 i h
