-- What the inner manager gives is a new entry.
use Rattle.std.proofs.Common.{◌∙◌}
use Rattle.cmm_caching.specs.Ask.{enc_handed, enc_wish}
use Rattle.cmm_caching.specs.Store.{after_new, asked_for}
use Rattle.cmm_caching.proofs.Asking.{newly}
use Rattle.cmm_caching.proofs.sealing.seal_new.Goals as goal

pub returns-clause-asked : goal.returns-clause-asked
returns-clause-asked g c =
    newly _ c.args.cache.now c.keep.new.self (enc_wish c.args.request.now) c.args.now _ c.in_ok-number.number (enc_handed c.into_sealing.result) c.requires.within c.requires.kept
    c.requires.missing c.in_ok-number.ensures.number
    (c.in_ok-number.ensures.ok ∙ (λ i. after_new c.args.cache.now (asked_for ((c.name.view_is ∙ c.requires.name) i) (c.declared.ensures i)) c.args.now (c.in_ok-copy.ensures i)))
    c.into_sealing.ensures
