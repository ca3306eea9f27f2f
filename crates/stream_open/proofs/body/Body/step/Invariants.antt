use Rattle.std.proofs.Common.{◌-◌, length}
use Rattle.stream_open.proofs.Filling.{IsFilled}
use Rattle.stream_open.proofs.body.Body.step.Given as goal

abbrev pub invariant-fields : goal.invariant-fields
invariant-fields l = IsFilled l.fn.self l.piece l.used l.self

abbrev pub decreases-fields : goal.decreases-fields
decreases-fields l = length l.piece - l.used
