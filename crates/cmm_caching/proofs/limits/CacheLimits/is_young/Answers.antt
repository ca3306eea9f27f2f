-- An age of the limit is too old.
use Rattle.std.proofs.Common.{rules}
use Rattle.cmm_caching.proofs.limits.CacheLimits.is_young.Goals as goal

pub returns-then-made-now : goal.returns-then-made-now
returns-then-made-now c = search rules
