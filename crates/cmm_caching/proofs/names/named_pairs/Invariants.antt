-- The copies so far are the pairs so far.
use Rattle.std.proofs.Common.{◌≡◌, take}
use Rattle.cmm_caching.proofs.names.named_pairs.Given as goal

abbrev pub invariant-loop-pair : goal.invariant-loop-pair
invariant-loop-pair l = l.made.items ≡ take l.pair-index l.pair-items
