-- The keys of the pairs before the index are copied.
use Rattle.std.proofs.Common.{◌≡◌, take}
use Rattle.context_codec.specs.Parts.{keys_of}
use Rattle.context_codec.proofs.subsets.keys_of.Given as goal

abbrev pub invariant-loop-pair : goal.invariant-loop-pair
invariant-loop-pair l = l.made.items ≡ keys_of (take l.pair-index l.pairs)
