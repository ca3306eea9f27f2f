-- What goes past the cache is served directly.
use Rattle.std.proofs.Common.{rules}
use Rattle.cmm_caching.specs.Ask.{dec_handed, dec_wish}
use Rattle.cmm_caching.proofs.Asking.{asked_directly}
use Rattle.cmm_caching.proofs.opening.open_kept.Goals as goal

pub returns-then-is_direct-clause-asked : goal.returns-then-is_direct-clause-asked
returns-then-is_direct-clause-asked g c =
    asked_directly dec_handed _ c.args.cache.now (dec_wish c.args.request.now) c.args.now c.open_directly.result (search rules) c.open_directly.ensures.direct
