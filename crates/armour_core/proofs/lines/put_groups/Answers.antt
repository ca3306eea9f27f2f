use Rattle.armour_core.proofs.Written.{symbols_nil}
use Rattle.armour_core.proofs.lines.put_groups.Goals as goal

pub put_twelve-requires-clause-front : goal.put_twelve-requires-clause-front
put_twelve-requires-clause-front c = symbols_nil

pub returns-clause-groups : goal.returns-clause-groups
returns-clause-groups c = symbols_nil
