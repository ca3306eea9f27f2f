use Rattle.std.proofs.Common.{◌∙◌, arith, refl}
use Rattle.whole_input.proofs.Agreeing.{grows_more, grows_none}
use Rattle.extract_core.proofs.Writing.{begins, none_done, passed_on, reach_all, reach_at, slot_fails, writes_all, writes_last, writes_nothing, writes_on}
use Rattle.extract_core.proofs.slots.Slots.write_range.Goals as goal

-- nothing is asked for

pub returns-then-count-eq0-clause-done : goal.returns-then-count-eq0-clause-done
returns-then-count-eq0-clause-done g c = λ told holds. writes_nothing _ (record { at = c.args.at; count = c.args.count }) (g.O.Sink.state c.args.output.now) c.if-count-eq0.true

pub returns-then-count-eq0-clause-fails : goal.returns-then-count-eq0-clause-fails
returns-then-count-eq0-clause-fails g c = tt

pub returns-then-count-eq0-clause-files : goal.returns-then-count-eq0-clause-files
returns-then-count-eq0-clause-files g c = refl

pub returns-then-count-eq0-clause-calls : goal.returns-then-count-eq0-clause-calls
returns-then-count-eq0-clause-calls g c = grows_none _

pub returns-then-count-eq0-clause-faults : goal.returns-then-count-eq0-clause-faults
returns-then-count-eq0-clause-faults g c = refl

pub returns-then-count-eq0-clause-given : goal.returns-then-count-eq0-clause-given
returns-then-count-eq0-clause-given g c = λ told holds. omega arith

-- the slots, one after another

pub loop-slot-init : goal.loop-slot-init
loop-slot-init g c = begins c.args.self.now (record { at = c.args.at; count = c.args.count }) (g.F.Shelf.state c.args.shelf.now) c.args.name.now (g.O.Sink.state c.args.output.now) _ c.requires.none c.slots_of-first.ensures.first

pub loop-slot-preserved : goal.loop-slot-preserved
loop-slot-preserved g c =
    writes_on c.args.self.now c.loop-slot.self c.write_slot.new.self (record { at = c.args.at; count = c.args.count }) (g.F.Shelf.state c.args.shelf.now) (g.F.Shelf.state c.loop-slot.shelf) (g.F.Shelf.state c.write_slot.new.shelf) c.args.name.now
    (g.O.Sink.state c.args.output.now) (g.O.Sink.state c.loop-slot.output) (g.O.Sink.state c.write_slot.new.output) c.loop-slot.slot c.loop-slot.written _ c.loop-slot.invariant (rw c.if-last.false at c.in_ok-part.ensures.wrote)
    c.write_slot.ensures.reads (omega (arith, c.slots_of-first.ensures.first))

-- a slot isn't written

pub returns-in_err-part-clause-done : goal.returns-in_err-part-clause-done
returns-in_err-part-clause-done g c = none_done _ c.from_residual.result _ c.from_residual.ensures.1

pub returns-in_err-part-clause-fails : goal.returns-in_err-part-clause-fails
returns-in_err-part-clause-fails g c =
    passed_on _ c.from_residual.result c.in_err-part.field-0.0 c.from_residual.ensures.1
    (slot_fails c.args.self.now c.loop-slot.self c.write_slot.new.self (record { at = c.args.at; count = c.args.count }) (g.F.Shelf.state c.args.shelf.now) (g.F.Shelf.state c.loop-slot.shelf) (g.F.Shelf.state c.write_slot.new.shelf) c.args.name.now
    (g.O.Sink.state c.args.output.now) (g.O.Sink.state c.loop-slot.output) (g.O.Sink.state c.write_slot.new.output) c.loop-slot.slot c.loop-slot.written c.in_err-part.field-0.0 c.loop-slot.invariant c.write_slot.ensures.reads.grown c.in_err-part.ensures.fails
    (omega (arith, c.if-count-eq0.false)) (omega (arith, c.slots_of-first.ensures.first)) (omega (arith, c.loop-slot-test.true, c.slots_of-first.ensures.behind, c.slots_of-first.ensures.first)))

pub returns-in_err-part-clause-files : goal.returns-in_err-part-clause-files
returns-in_err-part-clause-files g c = c.write_slot.ensures.reads.files ∙ c.loop-slot.invariant.files

pub returns-in_err-part-clause-calls : goal.returns-in_err-part-clause-calls
returns-in_err-part-clause-calls g c = grows_more _ _ _ c.loop-slot.invariant.grown c.write_slot.ensures.reads.grown

pub returns-in_err-part-clause-faults : goal.returns-in_err-part-clause-faults
returns-in_err-part-clause-faults g c = none_done _ c.from_residual.result _ c.from_residual.ensures.1

pub returns-in_err-part-clause-given : goal.returns-in_err-part-clause-given
returns-in_err-part-clause-given g c =
    reach_at c.args.self.now c.loop-slot.self c.write_slot.new.self (record { at = c.args.at; count = c.args.count }) (g.F.Shelf.state c.args.shelf.now) (g.F.Shelf.state c.loop-slot.shelf) (g.F.Shelf.state c.write_slot.new.shelf) c.args.name.now
    (g.O.Sink.state c.args.output.now) (g.O.Sink.state c.loop-slot.output) c.loop-slot.slot c.loop-slot.written c.loop-slot.invariant c.write_slot.ensures.reads (omega (arith, c.if-count-eq0.false))
    (omega (arith, c.slots_of-first.ensures.first)) (omega (arith, c.loop-slot-test.true, c.slots_of-first.ensures.behind, c.slots_of-first.ensures.first))

-- the last slot is written

pub returns-then-last-clause-done : goal.returns-then-last-clause-done
returns-then-last-clause-done g c =
    writes_last c.args.self.now c.loop-slot.self c.write_slot.new.self (record { at = c.args.at; count = c.args.count }) (g.F.Shelf.state c.args.shelf.now) (g.F.Shelf.state c.loop-slot.shelf) (g.F.Shelf.state c.write_slot.new.shelf) c.args.name.now
    (g.O.Sink.state c.args.output.now) (g.O.Sink.state c.loop-slot.output) (g.O.Sink.state c.write_slot.new.output) c.loop-slot.slot c.loop-slot.written _ c.loop-slot.invariant (rw c.if-last.true at c.in_ok-part.ensures.wrote)
    (omega (arith, c.if-count-eq0.false)) (omega (arith, c.loop-slot-test.true, c.slots_of-first.ensures.behind, c.slots_of-first.ensures.first))

pub returns-then-last-clause-fails : goal.returns-then-last-clause-fails
returns-then-last-clause-fails g c = tt

pub returns-then-last-clause-files : goal.returns-then-last-clause-files
returns-then-last-clause-files g c = c.write_slot.ensures.reads.files ∙ c.loop-slot.invariant.files

pub returns-then-last-clause-calls : goal.returns-then-last-clause-calls
returns-then-last-clause-calls g c = grows_more _ _ _ c.loop-slot.invariant.grown c.write_slot.ensures.reads.grown

pub returns-then-last-clause-faults : goal.returns-then-last-clause-faults
returns-then-last-clause-faults g c = c.in_ok-part.ensures.wrote.takes.faults ∙ c.loop-slot.invariant.faults

pub returns-then-last-clause-given : goal.returns-then-last-clause-given
returns-then-last-clause-given g c =
    reach_at c.args.self.now c.loop-slot.self c.write_slot.new.self (record { at = c.args.at; count = c.args.count }) (g.F.Shelf.state c.args.shelf.now) (g.F.Shelf.state c.loop-slot.shelf) (g.F.Shelf.state c.write_slot.new.shelf) c.args.name.now
    (g.O.Sink.state c.args.output.now) (g.O.Sink.state c.loop-slot.output) c.loop-slot.slot c.loop-slot.written c.loop-slot.invariant c.write_slot.ensures.reads (omega (arith, c.if-count-eq0.false))
    (omega (arith, c.slots_of-first.ensures.first)) (omega (arith, c.loop-slot-test.true, c.slots_of-first.ensures.behind, c.slots_of-first.ensures.first))

-- all slots of the range are written

pub returns-clause-done : goal.returns-clause-done
returns-clause-done g c =
    writes_all c.args.self.now c.loop-slot.self (record { at = c.args.at; count = c.args.count }) (g.F.Shelf.state c.args.shelf.now) (g.F.Shelf.state c.loop-slot.shelf) c.args.name.now
    (g.O.Sink.state c.args.output.now) (g.O.Sink.state c.loop-slot.output) c.loop-slot.slot c.loop-slot.written c.loop-slot.invariant (omega (arith, c.if-count-eq0.false)) c.slots_of-first.ensures.some
    (omega (arith, c.loop-slot-test.false, c.slots_of-first.ensures.behind, c.slots_of-first.ensures.first))

pub returns-clause-fails : goal.returns-clause-fails
returns-clause-fails g c = tt

pub returns-clause-files : goal.returns-clause-files
returns-clause-files g c = c.loop-slot.invariant.files

pub returns-clause-calls : goal.returns-clause-calls
returns-clause-calls g c = c.loop-slot.invariant.grown

pub returns-clause-faults : goal.returns-clause-faults
returns-clause-faults g c = c.loop-slot.invariant.faults

pub returns-clause-given : goal.returns-clause-given
returns-clause-given g c =
    reach_all c.args.self.now c.loop-slot.self (record { at = c.args.at; count = c.args.count }) (g.F.Shelf.state c.args.shelf.now) (g.F.Shelf.state c.loop-slot.shelf) c.args.name.now
    (g.O.Sink.state c.args.output.now) (g.O.Sink.state c.loop-slot.output) c.loop-slot.slot c.loop-slot.written c.loop-slot.invariant (omega (arith, c.if-count-eq0.false)) c.slots_of-first.ensures.some
    (omega (arith, c.loop-slot-test.false, c.slots_of-first.ensures.behind, c.slots_of-first.ensures.first))
