-- The length of the entries before the index, which are as many as the index says.
use Rattle.std.proofs.Common.{◌≡◌, ◌≤◌, ◌*◌, length, take}
use Rattle.std.specs.List.{flat_map}
use Rattle.edk_codec.specs.Entry.{edk_text}
use Rattle.header_codec.specs.Written.{longest_entry}
use Rattle.header_codec.proofs.written.entries_len.Given as goal

abbrev pub invariant-loop-entry : goal.invariant-loop-entry
invariant-loop-entry l = record {
  len : l.len ≡ length (flat_map edk_text (take l.entry-index l.entries));
  bound : l.len ≤ l.entry-index * longest_entry;
}
