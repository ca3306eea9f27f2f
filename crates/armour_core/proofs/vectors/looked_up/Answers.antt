use Rattle.armour_core.proofs.Lanes.{places_ok, table_lanes}
use Rattle.armour_core.proofs.vectors.looked_up.Goals as goal

pub swizzle : goal.swizzle
swizzle c = places_ok c.args.places c.requires.long c.requires.small

pub returns : goal.returns
returns c = table_lanes c.args.table c.args.places c.requires.long c.requires.small
