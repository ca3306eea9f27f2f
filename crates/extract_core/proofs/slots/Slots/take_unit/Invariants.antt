use Rattle.std.proofs.Common.{◌-◌, ◌^◌, length}
use Rattle.extract_core.proofs.Taking.{IsTaking}
use Rattle.extract_core.proofs.slots.Slots.take_unit.Given as goal

abbrev pub invariant-bytes : goal.invariant-bytes
invariant-bytes g l = IsTaking l.fn.self l.self (g.F.Shelf.state l.fn.shelf) (g.F.Shelf.state l.shelf) l.name l.at l.want

abbrev pub decreases-bytes : goal.decreases-bytes
decreases-bytes g l = 2 ^ 37 - length l.self.unit.held
