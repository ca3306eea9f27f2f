-- Nothing was written, or the report was lost.
use Rattle.std.proofs.Common.{refl}
use Rattle.esdk_run.proofs.Batches.{jobs_unwritten, report_unwritten}
use Rattle.esdk_run.proofs.batch.batch_jobs.Goals as goal

pub returns-in-Err-clause-fails : goal.returns-in-Err-clause-fails
returns-in-Err-clause-fails g c = λ input report reported.
    jobs_unwritten _ _ _ _ _ _ c.in-Err.failure refl (rw c.in-Err.is at c.run_job_file-ended.ensures.fails)

pub returns-clause-fails : goal.returns-clause-fails
returns-clause-fails g c = λ input report reported.
    report_unwritten _ _ _ _ _ _ _ c.write_report.result (rw c.in-Ok.is at c.run_job_file-ended.ensures.done)
    c.write_report.ensures.fails
