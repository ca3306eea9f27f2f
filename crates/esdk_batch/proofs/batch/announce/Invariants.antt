-- The shelf was told what each job before this one reads.
use Rattle.std.proofs.Common.{◌≡◌, take}
use Rattle.esdk_batch.specs.ShelfCalls.{announced}
use Rattle.esdk_batch.proofs.batch.announce.Given as goal

abbrev pub invariant-loop-job : goal.invariant-loop-job
invariant-loop-job g l = record { told : g.F.Shelf.state l.shelf ≡ announced (take l.job-index l.jobs) (g.F.Shelf.state l.fn.shelf) }
