use Rattle.std.proofs.Common.{refl}
use Rattle.c_session.proofs.session.Session.fail.Goals as goal

pub returns-clause-session : goal.returns-clause-session
returns-clause-session g c = rw (c.end_for.ensures.ended, c.end_for.ensures.reason) refl
