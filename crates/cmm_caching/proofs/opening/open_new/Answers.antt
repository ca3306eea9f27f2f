-- What the inner manager gives is a new entry.
use Rattle.std.proofs.Common.{None, refl, ◌∙◌}
use Rattle.cmm_caching.specs.Ask.{dec_handed, dec_wish}
use Rattle.cmm_caching.specs.Store.{after_new, asked_for}
use Rattle.cmm_caching.proofs.Asking.{newly}
use Rattle.cmm_caching.proofs.opening.open_new.Goals as goal

pub returns-clause-asked : goal.returns-clause-asked
returns-clause-asked g c =
    newly _ c.args.cache.now c.keep.new.self (dec_wish c.args.request.now) c.args.now _ c.in_ok-number.number (dec_handed c.into_opening.result) refl c.requires.kept
    c.requires.missing c.in_ok-number.ensures.number
    (c.in_ok-number.ensures.ok ∙ (λ i. after_new c.args.cache.now (asked_for ((c.name.view_is ∙ c.requires.name) i) None) c.args.now (c.in_ok-copy.ensures i)))
    c.into_opening.ensures
