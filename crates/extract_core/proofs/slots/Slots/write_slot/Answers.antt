use Rattle.std.proofs.Common.{◌*◌, ℕ, ap, arith, inl, refl}
use Rattle.extract_core.proofs.Writing.{none_done, part_fails, passed_on, wrote_slot}
use Rattle.extract_core.proofs.slots.Slots.write_slot.Goals as goal

pub overflow_mul-first : goal.overflow_mul-first
overflow_mul-first g c = omega (arith, ap (λ (n : ℕ). c.args.slot * n) c.frame_of.ensures, c.requires.slot)

pub returns-in_err-last-clause-wrote : goal.returns-in_err-last-clause-wrote
returns-in_err-last-clause-wrote g c = none_done _ c.from_residual.result _ c.from_residual.ensures.1

pub returns-in_err-last-clause-fails : goal.returns-in_err-last-clause-fails
returns-in_err-last-clause-fails g c =
    passed_on _ c.from_residual.result c.in_err-last.field-0.0 c.from_residual.ensures.1 (inl (c.in_err-last.ensures.fails, refl))

pub returns-in_err-last-clause-reads : goal.returns-in_err-last-clause-reads
returns-in_err-last-clause-reads g c = c.take_slot.ensures.reads

pub returns-in_err-written-clause-wrote : goal.returns-in_err-written-clause-wrote
returns-in_err-written-clause-wrote g c = none_done _ c.from_residual-in_err-written.result _ c.from_residual-in_err-written.ensures.1

pub returns-in_err-written-clause-fails : goal.returns-in_err-written-clause-fails
returns-in_err-written-clause-fails g c =
    passed_on _ c.from_residual-in_err-written.result c.in_err-written.field-0.0 c.from_residual-in_err-written.ensures.1
    (part_fails c.args.self.now c.take_slot.new.self (record { at = c.args.at; count = c.args.count }) (g.F.Shelf.state c.args.shelf.now) (g.F.Shelf.state c.take_slot.new.shelf) c.args.name.now
    (g.O.Sink.state c.args.output.now) (g.O.Sink.state c.write_part.new.output) c.args.slot _ c.in_ok-last.last c.in_err-written.field-0.0
    (ap (λ (n : ℕ). c.args.slot * n) c.frame_of.ensures) c.in_ok-last.ensures.slot c.in_err-written.ensures.fails)

pub returns-in_err-written-clause-reads : goal.returns-in_err-written-clause-reads
returns-in_err-written-clause-reads g c = c.take_slot.ensures.reads

pub returns-clause-wrote : goal.returns-clause-wrote
returns-clause-wrote g c =
    wrote_slot c.args.self.now c.take_slot.new.self (record { at = c.args.at; count = c.args.count }) (g.F.Shelf.state c.args.shelf.now) (g.F.Shelf.state c.take_slot.new.shelf) c.args.name.now
    (g.O.Sink.state c.args.output.now) (g.O.Sink.state c.write_part.new.output) c.args.slot _ c.in_ok-written.written c.in_ok-last.last
    (ap (λ (n : ℕ). c.args.slot * n) c.frame_of.ensures) c.in_ok-last.ensures.slot c.in_ok-written.ensures.part c.in_ok-written.ensures.length c.write_part.ensures.later

pub returns-clause-fails : goal.returns-clause-fails
returns-clause-fails g c = tt

pub returns-clause-reads : goal.returns-clause-reads
returns-clause-reads g c = c.take_slot.ensures.reads
