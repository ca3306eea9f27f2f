use Rattle.extract_core.proofs.Writing.{IsWriting}
use Rattle.extract_core.proofs.slots.Slots.write_range.Given as goal

abbrev pub invariant-loop-slot : goal.invariant-loop-slot
invariant-loop-slot g l =
    IsWriting l.fn.self l.self (record { at = l.at; count = l.count }) (g.F.Shelf.state l.fn.shelf) (g.F.Shelf.state l.shelf) l.name (g.O.Sink.state l.fn.output) (g.O.Sink.state l.output) l.slot l.written
