use Rattle.reseal_core.proofs.NewMessages.{passes_as}
use Rattle.reseal_core.proofs.new_message.NewMessage.pass.Goals as goal

pub returns-in-Some-clause-goes : goal.returns-in-Some-clause-goes
returns-in-Some-clause-goes g c = λ size random text m written nothing.
    rw c.put_as.ensures (passes_as g.O.Sink.state c.args.self.now c.in-Some.sealer c.feed.new.self c.args.output.now c.feed.new.output c.in-Some.is c.args.content.now c.feed.result c.feed.ensures.feeds size random text m written)
