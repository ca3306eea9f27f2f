use Rattle.ghash_core.proofs.Lanes.{upper_lane}
use Rattle.ghash_core.proofs.vector.upper.Goals as goal

pub returns : goal.returns
returns c t l half within = upper_lane c.args.high c.args.plane t l c.fits-high.0 c.fits-plane.0 c.fits-plane.1 half within
