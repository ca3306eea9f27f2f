use Rattle.std.proofs.Common.{◌++◌}
use Rattle.esdk_list.specs.Listing.{entry_lines}
use Rattle.esdk_list.proofs.Lines.{EntriesGo}
use Rattle.esdk_list.proofs.listing.push_entry_lines.Given as goal

abbrev pub invariant-loop-i : goal.invariant-loop-i
invariant-loop-i l = EntriesGo (l.fn.out ++ entry_lines 1 l.entries) l.out l.entries l.i
