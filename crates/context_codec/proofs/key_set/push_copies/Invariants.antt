-- The keys before the index are copied.
use Rattle.std.proofs.Common.{◌≡◌, ◌++◌, take}
use Rattle.context_codec.proofs.key_set.push_copies.Given as goal

abbrev pub invariant-loop-key : goal.invariant-loop-key
invariant-loop-key l = l.keys.items ≡ l.fn.keys.items ++ take l.key-index l.more
