-- The writer is in the midst of the bytes, and has not failed.
use Rattle.std.proofs.Common.{◌≡◌, length}
use Rattle.esdk_system.proofs.Fronts.{Halfway}
use Rattle.esdk_system.proofs.std_sink.StdSink.hand_on.Given as goal

abbrev pub invariant-loop-rest : goal.invariant-loop-rest
invariant-loop-rest g l =
    Halfway (g.W.Write.contents l.initial.self-inside.writer)
    (g.W.Write.contents l.self-inside.writer) l.initial.self-inside.written.bytes
    l.self-inside.written.bytes l.bytes l.rest
    × (l.self-inside.faults ≡ l.initial.self-inside.faults)

abbrev pub decreases-loop-rest : goal.decreases-loop-rest
decreases-loop-rest g l = length l.rest
