use Rattle.ghash_core.proofs.Picks.{are_places, picked_lane, picked_long}
use Rattle.ghash_core.proofs.planes.picked.Goals as goal

pub swizzle : goal.swizzle
swizzle c = are_places c.args.k c.args.without c.fits-without.0 c.requires.byte c.requires.lanes

pub returns : goal.returns
returns c = record {
  lanes = λ n h. picked_lane c.args.v c.args.without c.args.k n c.fits-without.0 c.requires.byte c.requires.lanes h;
  long = picked_long c.args.v c.args.without c.args.k c.fits-without.0;
}
