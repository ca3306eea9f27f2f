use Rattle.std.proofs.Common.{◌-◌, length}
use Rattle.armour_core.proofs.Readers.{Filling}
use Rattle.armour_core.proofs.reader.ArmourReader.fill.Given as goal

abbrev pub invariant-loop-filled : goal.invariant-loop-filled
invariant-loop-filled l = Filling l.fn.self l.fn.out l.self l.out l.filled

abbrev pub decreases-loop-filled : goal.decreases-loop-filled
decreases-loop-filled l = length l.out - l.filled
