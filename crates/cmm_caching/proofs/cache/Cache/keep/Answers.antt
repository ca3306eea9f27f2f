-- A new entry has a number of its own, and the materials that its name says.
use Rattle.std.proofs.Common.{rules}
use Rattle.cmm_caching.specs.Store.{asked_for}
use Rattle.cmm_caching.proofs.Keeping.{new_valid}
use Rattle.cmm_caching.proofs.cache.Cache.keep.Goals as goal

pub invariant_of-self-2 : goal.invariant_of-self-2
invariant_of-self-2 c =
    new_valid c.self.inside.limits c.self.inside.width c.self.inside.entries c.put_first.new.entries c.self.inside.next (asked_for c.args.name c.args.declared) c.args.now
    c.args.given c.new.result c.self.invariant (search rules) (search rules) c.new.ensures c.in_ok-put_first.ensures.ok

pub returns-clause-ok : goal.returns-clause-ok
returns-clause-ok c = search rules
