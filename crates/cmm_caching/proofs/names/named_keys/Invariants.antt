-- The copies so far are the keys so far.
use Rattle.std.proofs.Common.{◌≡◌, take}
use Rattle.cmm_caching.proofs.names.named_keys.Given as goal

abbrev pub invariant-loop-key : goal.invariant-loop-key
invariant-loop-key l = l.made.items ≡ take l.key-index l.keys
