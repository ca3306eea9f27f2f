-- The keyring's wraps are over the context, of a data key that it draws.
use Rattle.std.proofs.Common.{rules}
use Rattle.cmm_default.proofs.encrypting.wrap_drawn.Goals as goal

pub returns-in-Ok-clause-wraps : goal.returns-in-Ok-clause-wraps
returns-in-Ok-clause-wraps g c = search rules
