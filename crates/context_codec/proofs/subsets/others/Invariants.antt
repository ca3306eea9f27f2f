-- Of the pairs before the index, those whose keys aren't in the set.
use Rattle.std.proofs.Common.{◌≡◌, take}
use Rattle.context_codec.specs.Parts.{stored_of}
use Rattle.context_codec.proofs.subsets.others.Given as goal

abbrev pub invariant-loop-pair : goal.invariant-loop-pair
invariant-loop-pair l = l.made.items ≡ stored_of l.keys (take l.pair-index l.pairs)
