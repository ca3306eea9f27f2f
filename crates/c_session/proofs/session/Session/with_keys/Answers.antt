use Rattle.std.proofs.Common.{refl}
use Rattle.c_session.proofs.session.Session.with_keys.Goals as goal

pub returns : goal.returns
returns g c = rw (c.requiring.ensures, c.new.ensures) refl
