-- Each turn takes one file away.
use Rattle.std.proofs.Common.{length}
use Rattle.esdk_system.proofs.parts.Parts.discard_all.Given as goal

abbrev pub decreases-loop-part : goal.decreases-loop-part
decreases-loop-part l = length l.self.underway.values.items
