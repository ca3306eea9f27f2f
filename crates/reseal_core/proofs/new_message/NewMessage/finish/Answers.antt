use Rattle.reseal_core.proofs.NewMessages.{ends_as}
use Rattle.reseal_core.proofs.new_message.NewMessage.finish.Goals as goal

pub returns-in-Some : goal.returns-in-Some
returns-in-Some g c = λ size random text m written.
    rw c.put_as.ensures (ends_as g.O.Sink.state c.args.self.now c.in-Some.sealer c.finish_into.new.self c.args.output.now c.finish_into.new.output c.in-Some.is c.finish_into.result c.finish_into.ensures.ends size random text m written)
