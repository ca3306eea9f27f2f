use Rattle.std.proofs.Common.{◌∙◌}
use Rattle.c_session.proofs.Sessions.{begins_from, none_of}
use Rattle.c_session.proofs.session.Session.seal.Goals as goal

pub returns : goal.returns
returns g c =
    begins_from g.M.Manager.state c.args.self c.begin_seal-answer.new.self c.args.frame_length
    c.args.declared c.args.max_keys c.args.random.now c.begin_seal-answer.result
    (none_of _ (λ a is. c.in_default.not-Some a (c.setting_answer.ensures ∙ is)))
    (rw c.with_keys-session.ensures at c.begin_seal-answer.ensures)
