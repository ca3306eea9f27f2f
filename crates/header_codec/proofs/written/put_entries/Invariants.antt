-- The entries before the index stand behind their count.
use Rattle.std.proofs.Common.{◌≡◌, ◌++◌, take}
use Rattle.std.specs.List.{flat_map}
use Rattle.edk_codec.specs.Entry.{edk_text}
use Rattle.header_codec.proofs.written.put_entries.Given as goal

abbrev pub invariant-loop-entry : goal.invariant-loop-entry
invariant-loop-entry l = l.body ≡ l.initial.body ++ flat_map edk_text (take l.entry-index l.entries)
