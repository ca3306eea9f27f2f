use Rattle.ghash_core.proofs.Lanes.{lower_lane}
use Rattle.ghash_core.proofs.vector.lower.Goals as goal

pub returns : goal.returns
returns c l h = lower_lane c.args.high c.args.low l c.fits-high.0 c.fits-low.0 h
