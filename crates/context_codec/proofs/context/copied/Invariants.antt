-- The pairs before the index are copied.
use Rattle.std.proofs.Common.{◌≡◌, take}
use Rattle.context_codec.proofs.context.copied.Given as goal

abbrev pub invariant-loop-pair : goal.invariant-loop-pair
invariant-loop-pair l = l.made.items ≡ take l.pair-index l.pairs
