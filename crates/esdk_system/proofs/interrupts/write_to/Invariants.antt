-- The writes so far took nothing.
use Rattle.std.specs.Io.KnownBytes.{Keeps}
use Rattle.esdk_system.proofs.interrupts.write_to.Given as goal

abbrev pub invariant-loop : goal.invariant-loop
invariant-loop g l = Keeps (g.W.Write.contents l.initial.writer) (g.W.Write.contents l.writer)
