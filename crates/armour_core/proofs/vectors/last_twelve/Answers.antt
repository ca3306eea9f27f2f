use Rattle.armour_core.proofs.Sixes.{last_lanes}
use Rattle.armour_core.proofs.vectors.last_twelve.Goals as goal

pub returns-clause-twelve : goal.returns-clause-twelve
returns-clause-twelve c = last_lanes c.args.bytes c.requires
