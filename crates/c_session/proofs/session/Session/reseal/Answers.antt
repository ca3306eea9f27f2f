use Rattle.c_session.proofs.session.Session.reseal.Goals as goal

pub returns : goal.returns
returns g c = rw c.with_keys-session.ensures at c.begin_reseal-answer.ensures
