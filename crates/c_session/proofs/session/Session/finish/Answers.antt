use Rattle.std.proofs.Common.{◌∙◌, refl}
use Rattle.c_session.proofs.Sessions.{ended_so}
use Rattle.c_session.proofs.session.Session.finish.Goals as goal

pub returns : goal.returns
returns g c =
    rw (c.settle.ensures.session, c.settle.ensures.answer)
    (ended_so g.M.Manager.state c.args.self.now _ c.end_machine-ended.result refl refl refl
    c.end_machine-ended.ensures (λ a is. c.in_default.not-Some a (c.going_answer.ensures ∙ is)))
