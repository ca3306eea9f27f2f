use Rattle.std.proofs.Common.{◌∙◌, inr, subst, sym}
use Rattle.std.proofs.lemmas.Result.{err_from_is_err_and}
use Rattle.header_input.specs.Feeding.{header_session_of}
use Rattle.esdk_list.specs.List.{IsListCause, list_settings}
use Rattle.esdk_list.proofs.Causes.{list_cause}
use Rattle.esdk_list.proofs.Shown.{shows_some, shows_came, lists, lists_front}
use Rattle.esdk_list.proofs.command.list.Goals as goal

pub unreachable-requires : goal.unreachable-requires
unreachable-requires g c =
    let holds = rw c.limits_of.ensures at c.in-Ok.ensures.whole in
    let limits = list_settings c.args.uncommitted in
    shows_some limits c.in-Ok.reader holds.bytes holds.holds (c.in_default.ensures (header_session_of limits holds.holds.taken) holds.holds.stands)

pub returns-in-Ok-put-clause-done : goal.returns-in-Ok-put-clause-done
returns-in-Ok-put-clause-done g c =
    let holds = rw c.limits_of.ensures at c.in-Ok.ensures.whole in
    let limits = list_settings c.args.uncommitted in
    let shows = c.in-Some.ensures (header_session_of limits holds.holds.taken) holds.holds.stands in
    lists c.args.uncommitted _ _ _ _ c.in-Some.header.now c.bytes.result.now (shows_came c.args.uncommitted c.in-Ok.reader _ _ holds c.in-Some.header.now shows) (c.bytes.ensures ∙ c.in_ok-text.ensures)
    c.in-Ok-put.ensures.bytes

pub returns-clause-output : goal.returns-clause-output
returns-clause-output g c =
    let holds = rw c.limits_of.ensures at c.in-Ok.ensures.whole in
    let limits = list_settings c.args.uncommitted in
    let shows = c.in-Some.ensures (header_session_of limits holds.holds.taken) holds.holds.stands in
    lists_front c.args.uncommitted _ _ _ _ c.in-Some.header.now c.bytes.result.now (shows_came c.args.uncommitted c.in-Ok.reader _ _ holds c.in-Some.header.now shows) (c.bytes.ensures ∙ c.in_ok-text.ensures)
    c.in-Err-put.ensures.bytes

pub returns-clause-done : goal.returns-clause-done
returns-clause-done g c = tt

pub returns-clause-cause : goal.returns-clause-cause
returns-clause-cause g c = c.in-Err-put.ensures.cause.failed

pub returns-in-Err-clause-cause : goal.returns-in-Err-clause-cause
returns-in-Err-clause-cause g c =
    let cause = rw c.limits_of.ensures at c.in-Err.ensures.cause in
    let first = g.S.Source.state c.args.input.now in
    let now = g.S.Source.state c.take_header.new.input in
    let put = g.O.Sink.state c.args.output.now in
    subst (λ failure. IsListCause c.args.uncommitted failure first now put put)
    (sym c.failure_of.ensures)
    (list_cause c.args.uncommitted first now put put c.in-Err.error cause)

pub returns-in_err-text-clause-cause : goal.returns-in_err-text-clause-cause
returns-in_err-text-clause-cause g c =
    let holds = rw c.limits_of.ensures at c.in-Ok.ensures.whole in
    let limits = list_settings c.args.uncommitted in
    let shows = c.in-Some.ensures (header_session_of limits holds.holds.taken) holds.holds.stands in
    let p = err_from_is_err_and c.from_residual.result c.from_residual.ensures.1 in
    rw (p.1, p.2) (inr (c.in-Some.header.now, shows_came c.args.uncommitted c.in-Ok.reader _ _ holds c.in-Some.header.now shows))
