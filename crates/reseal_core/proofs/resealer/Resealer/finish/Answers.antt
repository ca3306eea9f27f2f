use Rattle.std.proofs.Common.{◌∙◌, refl, sym}
use Rattle.reseal_core.specs.Session.{text_so_far}
use Rattle.reseal_core.proofs.Sessions.{finishes_not, finishes_whole}
use Rattle.reseal_core.proofs.resealer.Resealer.finish.Goals as goal

pub returns-in-Ok-clause-finishes : goal.returns-in-Ok-clause-finishes
returns-in-Ok-clause-finishes g c = λ v stands going.
    finishes_whole c.args.self.now v (g.O.Sink.state c.args.output.now) (g.O.Sink.state c.finish-in-Ok.new.output) _ stands going c.finish-in-Ok.result
    (sym (c.finish.ensures.answer v.opening stands.opener) ∙ c.in-Ok.is) (λ m written. c.finish-in-Ok.ensures v.size v.random (text_so_far v) m written)

pub returns-in-Err-clause-finishes : goal.returns-in-Err-clause-finishes
returns-in-Err-clause-finishes g c = λ v stands going.
    rw c.opened_as.ensures (finishes_not c.args.self.now v (g.O.Sink.state c.args.output.now) (g.O.Sink.state c.args.output.now) _ stands going c.in-Err.error
    (sym (c.finish.ensures.answer v.opening stands.opener) ∙ c.in-Err.is) refl)
