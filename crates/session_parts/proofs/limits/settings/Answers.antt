use Rattle.std.proofs.Common.{refl}
use Rattle.session_parts.proofs.limits.settings.Goals as goal

pub returns : goal.returns
returns c = rw (c.keys_limit.ensures, c.unit_limit.ensures) refl
