use Rattle.std.proofs.Common.{ap, arith, refl}
use Rattle.extract_core.specs.Extracted.{unit_fault}
use Rattle.extract_core.proofs.SlotNumbers.{fails_slot, slot_behind, takes_slot, within_file}
use Rattle.extract_core.proofs.slots.Slots.take_slot.Goals as goal

pub returns-then-slot-gt-LAST_SLOT-clause-fails : goal.returns-then-slot-gt-LAST_SLOT-clause-fails
returns-then-slot-gt-LAST_SLOT-clause-fails g c = (refl, λ told holds. ap unit_fault (slot_behind _ c.args.slot c.if-slot-gt-LAST_SLOT.true))

pub overflow_mul-at : goal.overflow_mul-at
overflow_mul-at g c =
    let few = within_file c.args.self.now.content c.args.slot c.width.result c.if-slot-gt-LAST_SLOT.false c.requires.slot c.width.ensures in omega (arith, few)

pub overflow_add-at : goal.overflow_add-at
overflow_add-at g c =
    let few = within_file c.args.self.now.content c.args.slot c.width.result c.if-slot-gt-LAST_SLOT.false c.requires.slot c.width.ensures in omega (arith, few, c.requires.begin)

pub take_unit-requires-clause-at : goal.take_unit-requires-clause-at
take_unit-requires-clause-at g c =
    let few = within_file c.args.self.now.content c.args.slot c.width.result c.if-slot-gt-LAST_SLOT.false c.requires.slot c.width.ensures in omega (arith, few, c.requires.begin)

pub returns-clause-slot : goal.returns-clause-slot
returns-clause-slot g c =
    takes_slot c.args.self.now c.take_unit.new.self (g.F.Shelf.state c.args.shelf.now) (g.F.Shelf.state c.take_unit.new.shelf) c.args.name.now c.args.slot c.width.result c.take_unit.result c.if-slot-gt-LAST_SLOT.false c.width.ensures c.take_unit.ensures.unit

pub returns-clause-fails : goal.returns-clause-fails
returns-clause-fails g c =
    fails_slot c.args.self.now (g.F.Shelf.state c.args.shelf.now) (g.F.Shelf.state c.take_unit.new.shelf) c.args.name.now c.args.slot c.width.result c.take_unit.result c.if-slot-gt-LAST_SLOT.false c.width.ensures c.take_unit.ensures.fails
