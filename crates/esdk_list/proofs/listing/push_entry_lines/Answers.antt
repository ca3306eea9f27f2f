use Rattle.std.proofs.Common.{arith}
use Rattle.esdk_list.proofs.Lines.{entries_go_on}
use Rattle.esdk_list.proofs.listing.push_entry_lines.Goals as goal

pub loop-i-preserved : goal.loop-i-preserved
loop-i-preserved c =
    entries_go_on _ c.loop-i.out c.push_entry_line.new.out c.args.entries.now c.loop-i.i c.index-entries-i.result (omega arith) c.index-entries-i.is c.loop-i.invariant c.in_ok-push_entry_line.ensures
