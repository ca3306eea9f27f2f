-- An entry that serves has the materials that its name says, and room for one more use.
use Rattle.std.proofs.Common.{sym}
use Rattle.cmm_caching.specs.Store.{asked_for}
use Rattle.cmm_caching.proofs.Keeping.{hit_valid, found_fits}
use Rattle.cmm_caching.proofs.cache.Cache.serve.Goals as goal

pub invariant_of-self : goal.invariant_of-self
invariant_of-self c =
    hit_valid c.self.inside.limits c.self.inside.width c.self.inside.entries c.use_again.new.entries c.self.inside.next (asked_for c.args.name.now c.args.declared)
    c.in-Some.kept.now c.self.invariant (sym c.in-Some.ensures) (c.use_again.ensures c.in-Some.kept.now (sym c.in-Some.ensures))

pub returns-clause-fits : goal.returns-clause-fits
returns-clause-fits c =
    rw c.in_ok-given.ensures
    (rw (← c.self.view_is)
    (found_fits (record { limits = c.self.inside.limits; width = c.self.inside.width; entries = c.self.inside.entries.entries; next = c.self.inside.next }) c.args.name.now
    c.in-Some.kept.now c.self.invariant.1 (sym c.in-Some.ensures)))
