-- No row before the index has the name.
use Rattle.esdk_memory.proofs.Rows.{Passed}
use Rattle.esdk_memory.proofs.mem_files.row_of.Given as goal

abbrev pub invariant-loop-i : goal.invariant-loop-i
invariant-loop-i l = Passed l.name l.rows l.i
