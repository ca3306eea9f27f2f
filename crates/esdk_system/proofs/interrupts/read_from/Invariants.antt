-- The reads so far took nothing.
use Rattle.std.specs.Io.KnownBytes.{Keeps}
use Rattle.esdk_system.proofs.interrupts.read_from.Given as goal

abbrev pub invariant-loop : goal.invariant-loop
invariant-loop g l = Keeps (g.R.Read.remaining l.initial.reader) (g.R.Read.remaining l.reader)
