-- The entry of the request's name gives its materials.
use Rattle.std.proofs.Common.{None, option_map, refl, sym, ◌∙◌}
use Rattle.cmm_caching.specs.Ask.{dec_handed, dec_wish}
use Rattle.cmm_caching.specs.Store.{after_look, asked_for, given_again, kept_for}
use Rattle.cmm_caching.proofs.Asking.{again}
use Rattle.cmm_caching.proofs.opening.open_through.Goals as goal

pub returns-in-Some-clause-asked : goal.returns-in-Some-clause-asked
returns-in-Some-clause-asked g c =
    again _ c.args.cache.now c.serve.new.self (dec_wish c.args.request.now) c.args.now c.in-Some.given c.in-Some.number (dec_handed c.into_opening.result) refl c.requires.kept
    (sym c.in-Some.is ∙ c.in_ok-given.ensures.hit
    ∙ (λ i. option_map given_again (kept_for c.args.cache.now (asked_for (c.in_ok-name.ensures i) None) c.args.now)))
    (c.in_ok-given.ensures.ok ∙ (λ i. after_look c.args.cache.now (asked_for (c.in_ok-name.ensures i) None) c.args.now))
    c.into_opening.ensures
