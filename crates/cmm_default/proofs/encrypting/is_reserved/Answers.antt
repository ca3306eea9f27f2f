-- The prefix is the reserved one.
use Rattle.std.proofs.Common.{rules}
use Rattle.cmm_default.proofs.encrypting.is_reserved.Goals as goal

pub returns : goal.returns
returns c = search rules
