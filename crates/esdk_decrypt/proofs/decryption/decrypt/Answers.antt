use Rattle.std.proofs.Common.{◌≡◌, None, refl}
use Rattle.esdk_decrypt.specs.Decrypt.{DecryptEnds, asked_from}
use Rattle.esdk_decrypt.specs.Underway.{OpenerIsNew}
use Rattle.esdk_decrypt.proofs.Concluding.{concludes_done, concludes_ends, lacks_first, passed_on}
use Rattle.esdk_decrypt.proofs.Told.{decrypts_read, ends_read}
use Rattle.esdk_decrypt.proofs.decryption.decrypt.Goals as goal

-- ---- the given pairs aren't copied

pub returns-in_err-copy-clause-ends : goal.returns-in_err-copy-clause-ends
returns-in_err-copy-clause-ends g c =
    lacks_first (g.M.Manager.state c.args.manager.now) c.args.now c.args.settings c.args.given.now (g.S.Source.state c.args.input.now) (g.O.Sink.state c.args.output.now) (c.args.output.now ≡ c.args.output.now) refl
    c.from_residual.result c.from_residual.ensures.1

pub returns-in_err-copy-clause-stops : goal.returns-in_err-copy-clause-stops
returns-in_err-copy-clause-stops g c = λ keys told is stayed.
    ends_read (g.M.Manager.state c.args.manager.now) (g.M.Manager.state c.args.manager.now) c.args.now keys c.args.settings c.args.given.now (g.S.Source.state c.args.input.now) (g.S.Source.state c.args.input.now) (g.O.Sink.state c.args.output.now) (g.O.Sink.state c.args.output.now)
    (c.args.output.now ≡ c.args.output.now) told is stayed c.from_residual.result (returns-in_err-copy-clause-ends g c)

pub returns-in_err-copy-clause-bears : goal.returns-in_err-copy-clause-bears
returns-in_err-copy-clause-bears g c = (None, λ lines bore. bore)

pub returns-in_err-copy-clause-unasked : goal.returns-in_err-copy-clause-unasked
returns-in_err-copy-clause-unasked g c = λ bytes came none. refl

-- ---- the input isn't fed

pub feed_input-requires-clause-new : goal.feed_input-requires-clause-new
feed_input-requires-clause-new g c =
    record { settings = c.args.settings; given = c.args.given.now; stands = rw c.in_ok-copy.ensures at c.new-opener.ensures }

pub returns-in_err-end-clause-ends : goal.returns-in_err-end-clause-ends
returns-in_err-end-clause-ends g c =
    passed_on (DecryptEnds (asked_from (g.M.Manager.state c.args.manager.now) (g.M.Manager.state c.feed_input.new.manager) c.args.now c.args.settings c.args.given.now) (g.S.Source.state c.args.input.now) (g.S.Source.state c.feed_input.new.input) (g.O.Sink.state c.args.output.now) (g.O.Sink.state c.feed_input.new.output)
    (c.feed_input.new.output ≡ c.args.output.now)) c.from_residual-in_err-end.result c.in_err-end.field-0.0 c.from_residual-in_err-end.ensures.1
    (c.in_err-end.ensures.ends (record { settings = c.args.settings; given = c.args.given.now; stands = rw c.in_ok-copy.ensures at c.new-opener.ensures }))

pub returns-in_err-end-clause-stops : goal.returns-in_err-end-clause-stops
returns-in_err-end-clause-stops g c = λ keys told is stayed.
    ends_read (g.M.Manager.state c.args.manager.now) (g.M.Manager.state c.feed_input.new.manager) c.args.now keys c.args.settings c.args.given.now (g.S.Source.state c.args.input.now) (g.S.Source.state c.feed_input.new.input) (g.O.Sink.state c.args.output.now) (g.O.Sink.state c.feed_input.new.output)
    (c.feed_input.new.output ≡ c.args.output.now) told is stayed c.from_residual-in_err-end.result (returns-in_err-end-clause-ends g c)

pub returns-in_err-end-clause-unasked : goal.returns-in_err-end-clause-unasked
returns-in_err-end-clause-unasked g c =
    c.feed_input.ensures.unasked (record { settings = c.args.settings; given = c.args.given.now; stands = rw c.in_ok-copy.ensures at c.new-opener.ensures })

-- ---- no more pieces came

pub returns-clause-done : goal.returns-clause-done
returns-clause-done g c =
    let new : OpenerIsNew c.new-opener.result = record { settings = c.args.settings; given = c.args.given.now; stands = rw c.in_ok-copy.ensures at c.new-opener.ensures } in
    let w = c.in_ok-end.ensures.fed new in
    concludes_done g.M.Manager.state g.O.Sink.state c.args.now c.args.settings c.args.given.now c.args.manager.now c.feed_input.new.manager c.args.output.now c.feed_input.new.output
    (g.S.Source.state c.args.input.now) (g.S.Source.state c.feed_input.new.input) c.feed_input.new.opener c.in_ok-end.end c.conclude.result
    w (c.conclude.ensures w.fed.fed.session w.fed.fed.stands w.fed.fed.feeds.goes)

pub returns-clause-ends : goal.returns-clause-ends
returns-clause-ends g c =
    let new : OpenerIsNew c.new-opener.result = record { settings = c.args.settings; given = c.args.given.now; stands = rw c.in_ok-copy.ensures at c.new-opener.ensures } in
    let w = c.in_ok-end.ensures.fed new in
    concludes_ends g.M.Manager.state g.O.Sink.state c.args.now c.args.settings c.args.given.now c.args.manager.now c.feed_input.new.manager c.args.output.now c.feed_input.new.output
    (g.S.Source.state c.args.input.now) (g.S.Source.state c.feed_input.new.input) c.feed_input.new.opener c.in_ok-end.end c.conclude.result
    w (c.conclude.ensures w.fed.fed.session w.fed.fed.stands w.fed.fed.feeds.goes)

pub returns-clause-reads : goal.returns-clause-reads
returns-clause-reads g c = λ keys told is stayed.
    decrypts_read (g.M.Manager.state c.args.manager.now) (g.M.Manager.state c.feed_input.new.manager) c.args.now keys c.args.settings c.args.given.now (g.S.Source.state c.args.input.now) (g.S.Source.state c.feed_input.new.input) (g.O.Sink.state c.args.output.now) (g.O.Sink.state c.feed_input.new.output) told is stayed c.conclude.result (returns-clause-done g c)

pub returns-clause-stops : goal.returns-clause-stops
returns-clause-stops g c = λ keys told is stayed.
    ends_read (g.M.Manager.state c.args.manager.now) (g.M.Manager.state c.feed_input.new.manager) c.args.now keys c.args.settings c.args.given.now (g.S.Source.state c.args.input.now) (g.S.Source.state c.feed_input.new.input) (g.O.Sink.state c.args.output.now) (g.O.Sink.state c.feed_input.new.output)
    (c.feed_input.new.output ≡ c.args.output.now) told is stayed c.conclude.result (returns-clause-ends g c)

pub returns-clause-unasked : goal.returns-clause-unasked
returns-clause-unasked g c =
    c.feed_input.ensures.unasked (record { settings = c.args.settings; given = c.args.given.now; stands = rw c.in_ok-copy.ensures at c.new-opener.ensures })
