use Rattle.armour_core.proofs.Symbols.{places}
use Rattle.armour_core.proofs.vectors.offset_places.Goals as goal

pub returns : goal.returns
returns c = places c.args.numbers c.requires.long c.requires.small
