use Rattle.std.proofs.Common.{inl}
use Rattle.header_codec.specs.Header.{no_limits}
use Rattle.header_input.specs.Feeding.{header_session_of}
use Rattle.audit_core.proofs.Taking.{shows_came, shows_some}
use Rattle.audit_core.proofs.messages.source_header.Goals as goal

pub unreachable-requires : goal.unreachable-requires
unreachable-requires g c =
    let holds = rw c.none.ensures at c.in-Ok.ensures.whole in
    shows_some c.in-Ok.reader holds.bytes holds.holds (c.in-None.ensures (header_session_of no_limits holds.holds.taken) holds.holds.stands)

pub returns-in-Some-clause-header : goal.returns-in-Some-clause-header
returns-in-Some-clause-header g c =
    let holds = rw c.none.ensures at c.in-Ok.ensures.whole in
    shows_came c.in-Ok.reader _ _ holds c.in-Some.header (c.in-Some.ensures (header_session_of no_limits holds.holds.taken) holds.holds.stands)

pub returns-in-Err-Fault-clause-header : goal.returns-in-Err-Fault-clause-header
returns-in-Err-Fault-clause-header g c = inl (rw (c.in-Err-Fault.field-0-is, c.none.ensures) at c.in-Err-Fault.ensures.cause)
