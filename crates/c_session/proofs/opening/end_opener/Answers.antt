use Rattle.std.proofs.Common.{◌∙◌, sym}
use Rattle.stream_open.specs.Session.{opening_finished}
use Rattle.c_session.proofs.Openings.{end_not_whole, end_whole}
use Rattle.c_session.proofs.opening.end_opener.Goals as goal

pub returns-in-Ok-clause-opens : goal.returns-in-Ok-clause-opens
returns-in-Ok-clause-opens g c = λ begun settings pairs taken given opens.
    end_whole g.M.Manager.state begun c.args.manager.now c.args.opener.now c.args.waiting.now c.args.waiting.now
    settings pairs taken given opens (sym c.in-Ok.is ∙ c.finish.ensures.answer opens.fed.session opens.fed.stands)

pub returns-in-Err-clause-opens : goal.returns-in-Err-clause-opens
returns-in-Err-clause-opens g c = λ begun settings pairs taken given opens.
    rw c.unopened.ensures
    (end_not_whole g.M.Manager.state begun c.args.manager.now c.args.opener.now c.args.waiting.now c.args.waiting.now
    settings pairs taken given opens c.in-Err.error
    (sym c.in-Err.is ∙ c.finish.ensures.answer opens.fed.session opens.fed.stands))

pub returns-in-Ok-clause-session : goal.returns-in-Ok-clause-session
returns-in-Ok-clause-session g c =
    let s = c.requires.session in
    record { session = opening_finished s.session; stands = c.finish.ensures.stands s.session s.stands }

pub returns-in-Err-clause-session : goal.returns-in-Err-clause-session
returns-in-Err-clause-session g c =
    let s = c.requires.session in
    record { session = opening_finished s.session; stands = c.finish.ensures.stands s.session s.stands }
