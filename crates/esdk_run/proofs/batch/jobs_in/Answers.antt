use Rattle.esdk_run.proofs.Preparing.{jobs_refused}
use Rattle.esdk_run.proofs.batch.jobs_in.Goals as goal

pub returns-in-Err-clause-cause : goal.returns-in-Err-clause-cause
returns-in-Err-clause-cause c =
    jobs_refused c.args.name.now c.args.bytes.now c.in-Err.error c.tree_failure.result c.tree_failure.ensures
    c.in-Err.ensures
