-- The shelf is told what one job more reads; or memory ran out at it.
use Rattle.std.proofs.Common.{arith}
use Rattle.std.proofs.lemmas.List.{take_all}
use Rattle.esdk_batch.proofs.Announced.{told_as, told_more, told_none, told_some}
use Rattle.esdk_batch.proofs.batch.announce.Goals as goal

pub loop-job-init : goal.loop-job-init
loop-job-init g c = record { told = told_none (g.F.Shelf.state c.args.shelf.now) }

pub loop-job-preserved : goal.loop-job-preserved
loop-job-preserved g c = record {
  told = told_more c.args.jobs.now c.loop-job.job-index c.job-item.result c.as_str.result.now (g.F.Shelf.state c.args.shelf.now) (g.F.Shelf.state c.loop-job.shelf) (g.F.Shelf.state c.will_read.new.self)
      (omega (arith, c.loop-job-test.true)) c.job-item.is c.as_str.ensures.text c.loop-job.invariant.told c.will_read.ensures.stays c.will_read.ensures.given c.will_read.ensures.faults
      c.in_ok-will_read.ensures.calls;
}

pub returns-in_err-will_read-clause-some : goal.returns-in_err-will_read-clause-some
returns-in_err-will_read-clause-some g c =
    told_some c.args.jobs.now c.loop-job.job-index c.job-item.result c.as_str.result.now (g.F.Shelf.state c.args.shelf.now) (g.F.Shelf.state c.loop-job.shelf) (g.F.Shelf.state c.will_read.new.self)
    (omega (arith, c.loop-job-test.true)) c.job-item.is c.as_str.ensures.text c.loop-job.invariant.told c.will_read.ensures.stays c.will_read.ensures.given c.will_read.ensures.faults
    c.in_err-will_read.ensures.calls

pub returns-clause-all : goal.returns-clause-all
returns-clause-all g c =
    told_as _ c.args.jobs.now _ _ (take_all c.loop-job.job-index c.args.jobs.now (omega (arith, c.loop-job-test.false))) c.loop-job.invariant.told

pub returns-clause-some : goal.returns-clause-some
returns-clause-some g c = (c.loop-job.job-index, c.loop-job.invariant.told)
