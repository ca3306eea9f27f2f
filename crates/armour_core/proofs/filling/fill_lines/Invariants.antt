use Rattle.std.proofs.Common.{◌-◌, length}
use Rattle.armour_core.proofs.Outputs.{FillingLines}
use Rattle.armour_core.proofs.filling.fill_lines.Given as goal

abbrev pub invariant-loop-used : goal.invariant-loop-used
invariant-loop-used l = FillingLines l.fn.armour l.armour l.fn.bytes l.text l.used l.filled

abbrev pub decreases-loop-used : goal.decreases-loop-used
decreases-loop-used l = length l.fn.bytes - l.used
