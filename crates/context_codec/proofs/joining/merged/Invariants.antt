-- The pairs before the index stand behind the stored ones.
use Rattle.std.proofs.Common.{◌≡◌, ◌++◌, take}
use Rattle.context_codec.proofs.joining.merged.Given as goal

abbrev pub invariant-loop-pair : goal.invariant-loop-pair
invariant-loop-pair l = l.pairs.items ≡ l.stored ++ take l.pair-index l.only
