-- There are no jobs to run, or memory ran out behind both files; or they were run in time.
use Rattle.std.proofs.Common.{◌≡◌, None, Some, refl}
use Rattle.esdk_base.specs.Streams.{ShelfState}
use Rattle.multi_keyring.specs.Tree.{tree_meaning}
use Rattle.esdk_run.specs.Trees.{trees_of}
use Rattle.esdk_run.proofs.Ages.{serves_file}
use Rattle.esdk_run.proofs.Batches.{no_jobs_file, no_jobs_tree, some_turns}
use Rattle.esdk_run.proofs.batch.run_job_file.Goals as goal

pub returns-in-Err-clause-fails : goal.returns-in-Err-clause-fails
returns-in-Err-clause-fails g c =
    rw c.without_tree.ensures
    (no_jobs_file (trees_of g.P.Keyring.meaning c.args.plugs.items None) c.args.name.now (g.F.Shelf.state c.args.shelf.now) (g.F.Shelf.state c.read_job_file.new.shelf)
    (c.args.entropy.now ≡ c.args.entropy.now) c.in-Err.failure (record { same = refl; none = refl }) c.read_job_file.ensures.stays c.in-Err.ensures.cause)

pub returns-in-Err-read_keyring-clause-fails : goal.returns-in-Err-read_keyring-clause-fails
returns-in-Err-read_keyring-clause-fails g c =
    rw c.without_tree-in-Err-read_keyring.ensures
    (no_jobs_tree (trees_of g.P.Keyring.meaning c.args.plugs.items None) c.args.name.now c.keyring.result.now (g.F.Shelf.state c.args.shelf.now) (g.F.Shelf.state c.read_job_file.new.shelf)
    (g.F.Shelf.state c.read_keyring.new.shelf) (c.args.entropy.now ≡ c.args.entropy.now) c.in-Ok.jobs c.in-Err-read_keyring.failure (record { same = refl; none = refl })
    c.in-Ok.ensures.jobs c.keyring.ensures c.read_keyring.ensures.stays c.in-Err-read_keyring.ensures.cause)

pub returns-in-Err-run_over-clause-fails : goal.returns-in-Err-run_over-clause-fails
returns-in-Err-run_over-clause-fails g c =
    let old : ShelfState = g.F.Shelf.state c.args.shelf.now in
    let read : ShelfState = g.F.Shelf.state c.read_keyring.new.shelf in
    let new : ShelfState = g.F.Shelf.state c.run_over.new.shelf in
    rw c.without_tree-in-Err-run_over.ensures
    (some_turns (trees_of g.P.Keyring.meaning c.args.plugs.items None) c.args.name.now c.keyring.result.now old (g.F.Shelf.state c.read_job_file.new.shelf) read new
    (c.run_over.new.entropy ≡ c.args.entropy.now) c.in-Ok.jobs (tree_meaning g.P.Keyring.meaning c.in-Ok-read_keyring.tree) c.in-Ok.ensures.jobs c.keyring.ensures
    c.in-Ok-read_keyring.ensures.tree c.in-Ok-read_keyring.ensures.lawful c.read_keyring.ensures.stays tt c.run_over.ensures.others c.run_over.ensures.told c.run_over.ensures.calls)

pub returns-clause-fails : goal.returns-clause-fails
returns-clause-fails g c =
    let old : ShelfState = g.F.Shelf.state c.args.shelf.now in
    let read : ShelfState = g.F.Shelf.state c.read_keyring.new.shelf in
    let new : ShelfState = g.F.Shelf.state c.run_over.new.shelf in
    some_turns (trees_of g.P.Keyring.meaning c.args.plugs.items (Some c.in-Ok-run_over.outcome.tree)) c.args.name.now c.keyring.result.now old (g.F.Shelf.state c.read_job_file.new.shelf) read new
    (c.run_over.new.entropy ≡ c.args.entropy.now) c.in-Ok.jobs (tree_meaning g.P.Keyring.meaning c.in-Ok-read_keyring.tree) c.in-Ok.ensures.jobs c.keyring.ensures
    c.in-Ok-read_keyring.ensures.tree c.in-Ok-read_keyring.ensures.lawful c.read_keyring.ensures.stays c.in-Ok-run_over.ensures.goes c.run_over.ensures.others c.run_over.ensures.told
    c.run_over.ensures.calls

pub returns-in-Ok-ended-clause-ages : goal.returns-in-Ok-ended-clause-ages
returns-in-Ok-ended-clause-ages g c =
    rw c.in-Ok-ended.is at
    (serves_file c.args.name.now c.keyring.result.now _ (g.F.Shelf.state c.args.shelf.now) (g.F.Shelf.state c.read_job_file.new.shelf) (g.F.Shelf.state c.read_keyring.new.shelf)
    (g.F.Shelf.state c.run_over.new.shelf) c.in-Ok.jobs _ _ c.in-Ok-run_over.outcome.ended c.in-Ok.ensures.jobs c.in-Ok-read_keyring.ensures.tree.file.read c.run_over.ensures.calls
    c.in-Ok-run_over.ensures.ages)
