-- What the status says of the input's header.
use Rattle.std.proofs.Common.{◌≡◌, inl, inr, refl}
use Rattle.esdk_run.proofs.UnarmouredListing.{status_agrees}
use Rattle.esdk_run.proofs.list.run_list.Goals as goal

pub returns-in-Ok-clause-judged : goal.returns-in-Ok-clause-judged
returns-in-Ok-clause-judged g c =
    status_agrees c.args.asked.now.armour c.args.asked.now.uncommitted (g.S.Source.state c.args.input.now) (g.S.Source.state c.list_input.new.input)
    (g.O.Sink.state c.args.output.now) (g.O.Sink.state c.list_input.new.output) (c.list_input.new.output ≡ c.args.output.now) 0 (g.R.Sink.state c.args.report.now)
    (g.R.Sink.state c.args.report.now) (inl (record { status = refl; same = refl }, c.in-Ok.ensures.done))

pub returns-in-Err-clause-judged : goal.returns-in-Err-clause-judged
returns-in-Err-clause-judged g c =
    status_agrees c.args.asked.now.armour c.args.asked.now.uncommitted (g.S.Source.state c.args.input.now) (g.S.Source.state c.list_input.new.input)
    (g.O.Sink.state c.args.output.now) (g.O.Sink.state c.list_input.new.output) (c.list_input.new.output ≡ c.args.output.now) _ (g.R.Sink.state c.args.report.now)
    (g.R.Sink.state c.tell_failure.new.report) (inr (record { failure = c.in-Err.failure; because = c.in-Err.ensures.ends; said = c.tell_failure.ensures }))
