use Rattle.esdk_run.proofs.Auditing.{audit_failed, audit_status_known, audit_written}
use Rattle.esdk_run.proofs.audit.run_audit.Goals as goal

pub returns-in-Ok-clause-status : goal.returns-in-Ok-clause-status
returns-in-Ok-clause-status g c = audit_status_known _ _ _ _ _ _ _ (rw c.in-Ok.is at c.write_findings-ended.ensures.done)

pub returns-in-Ok-clause-runs : goal.returns-in-Ok-clause-runs
returns-in-Ok-clause-runs g c = audit_written _ _ c.as_str.result.now _ _ _ _ _ _ _ c.as_str.ensures.text (rw c.in-Ok.is at c.write_findings-ended.ensures.done)

pub returns-in-Err-clause-runs : goal.returns-in-Err-clause-runs
returns-in-Err-clause-runs g c =
    audit_failed _ _ c.as_str.result.now _ _ _ _ _ _ _ _ c.in-Err.failure c.as_str.ensures.text
    (rw c.in-Err.is at c.write_findings-ended.ensures.fails) c.tell_failure.ensures
