use Rattle.std.proofs.Common.{ℕ, List, length}
use Rattle.esdk_gen.specs.Opening.{GeneratorIsOpening}
use Rattle.esdk_gen.proofs.opening.feed_message.Given as goal

abbrev pub invariant-loop-left : goal.invariant-loop-left
invariant-loop-left l = (key text : List ℕ) → GeneratorIsOpening l.fn.desk key l.id l.message text l.message 0 → GeneratorIsOpening l.desk key l.id l.message text l.left l.opened

abbrev pub decreases-loop-left : goal.decreases-loop-left
decreases-loop-left l = length l.left
