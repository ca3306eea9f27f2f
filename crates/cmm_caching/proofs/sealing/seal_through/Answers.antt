-- The entry of the request's name gives its materials, which fit the request.
use Rattle.std.proofs.Common.{option_map, refl, sym, ◌∙◌}
use Rattle.cmm_caching.specs.Ask.{enc_handed, enc_wish}
use Rattle.cmm_caching.specs.Store.{after_look, asked_for, given_again, kept_for}
use Rattle.cmm_caching.proofs.Asking.{again}
use Rattle.cmm_caching.proofs.Fitting.{name_fits}
use Rattle.cmm_caching.proofs.Inner.{seals_again}
use Rattle.cmm_caching.proofs.sealing.seal_through.Goals as goal

pub returns-in-Some-clause-asked : goal.returns-in-Some-clause-asked
returns-in-Some-clause-asked g c =
    again _ c.args.cache.now c.serve.new.self (enc_wish c.args.request.now) c.args.now c.in-Some.given c.in-Some.number (enc_handed c.into_sealing.result) c.requires.within
    c.requires.kept
    (sym c.in-Some.is ∙ c.in_ok-given.ensures.hit
    ∙ (λ i. option_map given_again (kept_for c.args.cache.now (asked_for (c.in_ok-name.ensures i) (c.declared.ensures i)) c.args.now)))
    (c.in_ok-given.ensures.ok ∙ (λ i. after_look c.args.cache.now (asked_for (c.in_ok-name.ensures i) (c.declared.ensures i)) c.args.now))
    c.into_sealing.ensures

pub returns-in-Some-clause-seals : goal.returns-in-Some-clause-seals
returns-in-Some-clause-seals g c =
    seals_again (g.M.Manager.state c.args.inner.now) (g.M.Manager.state c.args.inner.now) c.args.request.now c.args.now c.args.random.now c.in-Some.given c.in-Some.number
    c.into_sealing.result c.wraps-wraps.ensures.stays
    (name_fits _ c.args.cache.now c.args.request.now _ c.in-Some.given c.requires.within c.in_ok-name.ensures (rw c.in-Some.is at c.in_ok-given.ensures.fits)) c.into_sealing.ensures

pub returns-in-Some-clause-spares : goal.returns-in-Some-clause-spares
returns-in-Some-clause-spares g c = λ _ _ k _. refl

pub returns-in-Some-clause-certain : goal.returns-in-Some-clause-certain
returns-in-Some-clause-certain g c = λ _ _ k _. tt
