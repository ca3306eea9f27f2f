use Rattle.stream_seal.proofs.FedReceivers.{finish_fails, finish_gives}
use Rattle.stream_seal.proofs.session.Sealer.finish_into.Goals as goal

pub returns-in-Ok-clause-ends : goal.returns-in-Ok-clause-ends
returns-in-Ok-clause-ends g c = λ v stands.
    finish_gives g.R.Receiver.takes g.R.Receiver.fails v c.finish.new.self c.finish.result
    c.args.output.now c.hand_out.new.output c.hand_out.result (c.finish.ensures.answer v stands) c.in-Ok.is
    (c.finish.ensures.stands v stands) c.hand_out.ensures

pub returns-in-Err-clause-ends : goal.returns-in-Err-clause-ends
returns-in-Err-clause-ends g c = λ v stands.
    finish_fails g.R.Receiver.takes g.R.Receiver.fails v c.finish.result c.in-Err.error
    c.args.output.now (c.finish.ensures.answer v stands) c.in-Err.is
