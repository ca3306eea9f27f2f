use Rattle.std.proofs.Common.{◌∙◌, refl}
use Rattle.c_session.proofs.Sessions.{fed_so}
use Rattle.c_session.proofs.session.Session.feed.Goals as goal

pub returns : goal.returns
returns g c =
    rw (c.settle.ensures.session, c.settle.ensures.answer)
    (fed_so g.M.Manager.state c.args.self.now _ c.args.piece.now c.feed_machine-fed.result refl
    c.feed_machine-fed.ensures (λ a is. c.in_default.not-Some a (c.going_answer.ensures ∙ is)))
