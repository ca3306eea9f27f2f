-- The keys ascend up to the index.
use Rattle.std.specs.List.{AllAdjacentBelow}
use Rattle.context_codec.specs.Context.{KeyLess}
use Rattle.context_codec.proofs.read.keys_ascend.Given as goal

abbrev pub invariant-loop-i : goal.invariant-loop-i
invariant-loop-i l = AllAdjacentBelow KeyLess l.pairs l.i
