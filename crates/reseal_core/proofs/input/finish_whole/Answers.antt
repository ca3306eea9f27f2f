use Rattle.std.proofs.Common.{◌≡◌, ap}
use Rattle.stream_open.proofs.GoingOn.{stands_goes}
use Rattle.reseal_core.proofs.Sessions.{concludes_err, unstopped_end}
use Rattle.reseal_core.proofs.input.finish_whole.Goals as goal

pub named-requires : goal.named-requires
named-requires g c = λ stopped.
    let u = c.requires in
    unstopped_end u.session (g.O.Sink.state c.args.output.now) (g.O.Sink.state c.finish.new.output) (c.finish.new.output ≡ c.args.output.now) (rw stopped at (c.in-Err.ensures.finishes u.session u.stands u.going))

pub returns-in-Err-clause-ends : goal.returns-in-Err-clause-ends
returns-in-Err-clause-ends g c = λ v stands going.
    concludes_err v _ _ (c.finish.new.output ≡ c.args.output.now) c.in-Err.error c.named.result (stands_goes c.args.resealer.now.opener v.opening stands.opener (stands.going going).on) (ap g.O.Sink.state) (c.in-Err.ensures.finishes v stands going) c.named.ensures

pub returns-in-Ok-clause-ends : goal.returns-in-Ok-clause-ends
returns-in-Ok-clause-ends g c = c.in-Ok.ensures.finishes

pub returns-in-Ok-clause-stands : goal.returns-in-Ok-clause-stands
returns-in-Ok-clause-stands g c = c.in-Ok.ensures.stands

pub returns-in-Err-clause-stands : goal.returns-in-Err-clause-stands
returns-in-Err-clause-stands g c = λ v stands going. tt
