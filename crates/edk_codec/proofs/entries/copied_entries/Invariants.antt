-- The copies so far are the entries so far.
use Rattle.std.proofs.Common.{◌≡◌, take}
use Rattle.edk_codec.proofs.entries.copied_entries.Given as goal

abbrev pub invariant-loop-entry : goal.invariant-loop-entry
invariant-loop-entry l = l.made.items ≡ take l.entry-index l.entries
