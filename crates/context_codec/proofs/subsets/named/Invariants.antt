-- Of the pairs before the index, those whose keys are in the set.
use Rattle.std.proofs.Common.{◌≡◌, take}
use Rattle.context_codec.specs.Parts.{only_of}
use Rattle.context_codec.proofs.subsets.named.Given as goal

abbrev pub invariant-loop-pair : goal.invariant-loop-pair
invariant-loop-pair l = l.made.items ≡ only_of l.keys (take l.pair-index l.pairs)
