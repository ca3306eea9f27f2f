use Rattle.header_input.specs.Feeding.{header_session_of}
use Rattle.header_input.proofs.Feeding.{fed, fed_fault, fed_not_stopped}
use Rattle.header_input.proofs.taking.feed.Goals as goal

pub unreachable-requires : goal.unreachable-requires
unreachable-requires c =
    let settings = c.requires.0 in
    let taken = c.requires.1 in
    fed_not_stopped settings taken c.args.piece.now (rw c.in-Err-Stopped.field-0-is at (c.in-Err-Stopped.ensures.answer (header_session_of settings taken) c.requires.2.stands))

pub returns-in-Ok : goal.returns-in-Ok
returns-in-Ok c = λ settings taken waits.
    fed settings taken c.args.piece.now c.in-Ok.step c.step.new.self (c.in-Ok.ensures.answer (header_session_of settings taken) waits.stands) waits.wanting
    (c.in-Ok.ensures.stands (header_session_of settings taken) waits.stands)

pub returns-in-Err-Fault : goal.returns-in-Err-Fault
returns-in-Err-Fault c = λ settings taken waits.
    fed_fault settings taken c.args.piece.now c.in-Err-Fault.fault c.step.new.self
    (rw c.in-Err-Fault.field-0-is at (c.in-Err-Fault.ensures.answer (header_session_of settings taken) waits.stands)) waits.wanting
