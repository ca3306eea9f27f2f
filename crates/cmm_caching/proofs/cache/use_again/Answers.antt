-- The entry that `lru` lends goes first.
use Rattle.std.proofs.Common.{◌≡◌, Some, ap, ◌∙◌, sym}
use Rattle.lru.specs.LruCache.{lru_cache}
use Rattle.cmm_caching.specs.Ask.{moved}
use Rattle.cmm_caching.specs.Store.{used_again}
use Rattle.cmm_caching.specs.declared.kept.Kept.{Kept}
use Rattle.cmm_caching.proofs.Entries.{set_is}
use Rattle.cmm_caching.proofs.cache.use_again.Goals as goal

pub returns-in-Some : goal.returns-in-Some
returns-in-Some c = λ k found.
    let some : Some c.in-Some.kept.now ≡ Some k = c.in-Some.ensures.value ∙ found in
    let same : c.in-Some.kept.now ≡ k = cc in
    ap (λ es. lru_cache es c.args.entries.now.cap)
    (set_is c.args.name.now c.args.entries.now.entries k c.use_again.new.self found
    ∙ ap (λ (x : Kept). moved c.args.name.now x c.args.entries.now.entries) (c.use_again.ensures ∙ ap (used_again c.args.declared) same))

pub use_again-requires : goal.use_again-requires
use_again-requires c = c.requires c.in-Some.kept.now (sym c.in-Some.ensures.value)
