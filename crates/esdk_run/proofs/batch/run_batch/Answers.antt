use Rattle.std.proofs.Common.{[], None, false}
use Rattle.esdk_base.specs.Streams.{SourceState}
use Rattle.esdk_run.proofs.Ages.{ages_kept, no_ages}
use Rattle.esdk_run.proofs.Batches.{batch_failed, batch_reported, run_status}
use Rattle.esdk_run.proofs.batch.run_batch.Goals as goal

pub returns-in-Ok-clause-status : goal.returns-in-Ok-clause-status
returns-in-Ok-clause-status g c =
    let none : SourceState = record { left = None; given = 0; faults = 0; came = []; ended = false } in
    run_status _ _ _ _ _ (rw c.in-Ok.is at (c.batch_jobs-ended.ensures.done none (g.R.Sink.state c.args.report.now)))

pub returns-in-Ok-clause-runs : goal.returns-in-Ok-clause-runs
returns-in-Ok-clause-runs g c = λ input.
    batch_reported _ _ c.as_str.result.now _ _ _ _ _ c.as_str.ensures.text (rw c.in-Ok.is at (c.batch_jobs-ended.ensures.done input (g.R.Sink.state c.args.report.now)))

pub returns-in-Err-clause-runs : goal.returns-in-Err-clause-runs
returns-in-Err-clause-runs g c = λ input.
    batch_failed _ _ c.as_str.result.now _ _ _ _ _ c.in-Err.failure c.as_str.ensures.text
    (rw c.in-Err.is at (c.batch_jobs-ended.ensures.fails input (g.R.Sink.state c.args.report.now) (g.R.Sink.state c.tell_failure.new.report))) c.tell_failure.ensures

pub returns-in-Ok-clause-ages : goal.returns-in-Ok-clause-ages
returns-in-Ok-clause-ages g c = ages_kept _ c.as_str.result.now _ _ _ _ _ _ _ c.as_str.ensures.text (rw c.in-Ok.is at c.batch_jobs-ended.ensures.ages)

pub returns-in-Err-clause-ages : goal.returns-in-Err-clause-ages
returns-in-Err-clause-ages g c = no_ages _ _ _ _ _ _ _ _ _ _ c.in-Err.failure c.tell_failure.ensures
