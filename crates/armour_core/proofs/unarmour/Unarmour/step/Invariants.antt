use Rattle.std.proofs.Common.{◌-◌, length}
use Rattle.armour_core.proofs.Stepping.{InStep}
use Rattle.armour_core.proofs.unarmour.Unarmour.step.Given as goal

abbrev pub invariant-loop-used : goal.invariant-loop-used
invariant-loop-used l = InStep l.fn.self l.self l.fn.piece l.used

abbrev pub decreases-loop-used : goal.decreases-loop-used
decreases-loop-used l = length l.fn.piece - l.used
