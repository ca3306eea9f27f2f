use Rattle.extract_core.proofs.Taking.{closed_answer, goes_on, none_taken, opened_answer, reads_on, reads_so_far, refused_head, same_as_is}
use Rattle.extract_core.proofs.Writing.{passed_on}
use Rattle.extract_core.proofs.slots.Slots.take_unit.Goals as goal

pub bytes-preserved : goal.bytes-preserved
bytes-preserved g c =
    goes_on c.args.self.now c.bytes.self c.take_bytes.new.self (g.F.Shelf.state c.args.shelf.now) (g.F.Shelf.state c.bytes.shelf) (g.F.Shelf.state c.take_bytes.new.shelf) c.args.name.now c.args.at c.args.want c.in-Bytes.end
    c.bytes.invariant c.take_bytes.ensures.on c.in_ok-take_bytes-in-Bytes.ensures.more c.in-Bytes.ensures

pub returns-in_err-take_bytes-in-Bytes-clause-fails :
    goal.returns-in_err-take_bytes-in-Bytes-clause-fails
returns-in_err-take_bytes-in-Bytes-clause-fails g c =
    passed_on _ c.from_residual.result c.in_err-take_bytes-in-Bytes.field-0.0 c.from_residual.ensures.1
    (none_taken c.args.self.now c.bytes.self c.take_bytes.new.self (g.F.Shelf.state c.args.shelf.now) (g.F.Shelf.state c.bytes.shelf) (g.F.Shelf.state c.take_bytes.new.shelf) c.args.name.now c.args.at c.args.want c.in-Bytes.end
    c.in_err-take_bytes-in-Bytes.field-0.0 c.bytes.invariant c.in-Bytes.ensures c.take_bytes.ensures.on c.in_err-take_bytes-in-Bytes.ensures.none)

pub returns-in-Refused-clause-fails : goal.returns-in-Refused-clause-fails
returns-in-Refused-clause-fails g c =
    refused_head c.args.self.now c.bytes.self _ _ c.args.name.now c.args.at c.args.want c.in-Refused.fault c.bytes.invariant c.in-Refused.ensures

pub returns-in_err-take_bytes-in-Bytes-clause-reads :
    goal.returns-in_err-take_bytes-in-Bytes-clause-reads
returns-in_err-take_bytes-in-Bytes-clause-reads g c =
    reads_on c.args.self.now c.bytes.self c.take_bytes.new.self _ _ _ c.args.name.now c.args.at c.args.want c.in-Bytes.end c.bytes.invariant c.take_bytes.ensures.on c.in-Bytes.ensures

pub returns-in-Nothing-clause-unit : goal.returns-in-Nothing-clause-unit
returns-in-Nothing-clause-unit g c =
    opened_answer c.args.self.now c.bytes.self c.open.new.self _ _ c.args.name.now c.args.at c.args.want c.in-Nothing.head c.open.result c.bytes.invariant c.in-Nothing.ensures
    c.open.ensures.opens c.open.ensures.last c.open.ensures.empty

pub returns-in-Nothing-clause-fails : goal.returns-in-Nothing-clause-fails
returns-in-Nothing-clause-fails g c =
    closed_answer c.args.self.now c.bytes.self _ _ c.args.name.now c.args.at c.args.want c.in-Nothing.head c.open.result c.bytes.invariant c.in-Nothing.ensures c.open.ensures.fault

pub returns-in-Refused-clause-reads : goal.returns-in-Refused-clause-reads
returns-in-Refused-clause-reads g c =
    reads_so_far c.args.self.now c.bytes.self c.bytes.self _ _ c.args.name.now c.args.at c.args.want c.bytes.invariant (same_as_is c.bytes.self)

pub returns-in-Nothing-clause-reads : goal.returns-in-Nothing-clause-reads
returns-in-Nothing-clause-reads g c =
    reads_so_far c.args.self.now c.bytes.self c.open.new.self _ _ c.args.name.now c.args.at c.args.want c.bytes.invariant c.open.ensures.same
