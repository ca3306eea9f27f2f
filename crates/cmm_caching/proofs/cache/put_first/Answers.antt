-- What `lru` puts stands first.
use Rattle.std.proofs.Common.{ap}
use Rattle.lru.specs.LruCache.{lru_cache}
use Rattle.cmm_caching.proofs.Entries.{put_is}
use Rattle.cmm_caching.proofs.cache.put_first.Goals as goal

pub returns-clause-ok : goal.returns-clause-ok
returns-clause-ok c = rw c.in_ok-put.ensures.entries (ap (λ es. lru_cache es c.args.entries.now.cap) (put_is c.args.name c.args.entries.now c.args.kept))
