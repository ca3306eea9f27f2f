-- A length that isn't declared is over.
use Rattle.std.proofs.Common.{rules}
use Rattle.cmm_caching.proofs.limits.CacheLimits.may_exceed.Goals as goal

pub returns-in-None : goal.returns-in-None
returns-in-None c = search rules
