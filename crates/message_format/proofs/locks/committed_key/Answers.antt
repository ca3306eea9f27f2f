-- A committing header commits to the data key where its commitment is the one that is derived.
use Rattle.std.proofs.Common.{◌≡◌, sym, ◌∙◌}
use Rattle.suite_table.specs.declared.suite.Suite.TheVariants.{Committing}
use Rattle.message_format.proofs.locks.committed_key.Goals as goal

pub returns-then-same : goal.returns-then-same
returns-then-same c =
    let is : c.args.header.now.suite ≡ Committing = sym c.algorithm.ensures ∙ c.in-Committing.is in
    rw is (cc, cc)

pub returns-else-same : goal.returns-else-same
returns-else-same c =
    let is : c.args.header.now.suite ≡ Committing = sym c.algorithm.ensures ∙ c.in-Committing.is in
    rw is (cc)
