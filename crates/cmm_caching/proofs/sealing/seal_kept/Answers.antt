-- What goes past the cache is served directly.
use Rattle.std.proofs.Common.{rules}
use Rattle.std.proofs.lemmas.Bool.{or_left, or_right}
use Rattle.cmm_caching.specs.Ask.{enc_handed, enc_wish}
use Rattle.cmm_caching.proofs.Asking.{asked_directly}
use Rattle.cmm_caching.proofs.sealing.seal_kept.Goals as goal

pub returns-then-is_past-clause-asked : goal.returns-then-is_past-clause-asked
returns-then-is_past-clause-asked g c =
    asked_directly enc_handed _ c.args.cache.now (enc_wish c.args.request.now) c.args.now c.seal_directly.result (search (rules, or_left)) c.seal_directly.ensures.direct

pub returns-then-is_direct-clause-asked : goal.returns-then-is_direct-clause-asked
returns-then-is_direct-clause-asked g c =
    asked_directly enc_handed _ c.args.cache.now (enc_wish c.args.request.now) c.args.now c.seal_directly-then-is_direct.result (search (rules, or_right))
    c.seal_directly-then-is_direct.ensures.direct
