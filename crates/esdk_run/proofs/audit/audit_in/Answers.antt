use Rattle.esdk_run.proofs.Auditing.{audit_refused}
use Rattle.esdk_run.proofs.audit.audit_in.Goals as goal

pub returns-in-Err-clause-cause : goal.returns-in-Err-clause-cause
returns-in-Err-clause-cause c =
    audit_refused c.args.bytes.now c.in-Err.error c.tree_failure.result c.tree_failure.ensures c.in-Err.ensures
