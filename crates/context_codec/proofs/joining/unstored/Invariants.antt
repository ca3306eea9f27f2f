-- Of the pairs before the index, those whose keys aren't stored.
use Rattle.std.proofs.Common.{◌≡◌, take}
use Rattle.context_codec.specs.Parts.{only_given}
use Rattle.context_codec.proofs.joining.unstored.Given as goal

abbrev pub invariant-loop-pair : goal.invariant-loop-pair
invariant-loop-pair l = l.made.items ≡ only_given l.stored (take l.pair-index l.pairs)
