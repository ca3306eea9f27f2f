-- Nothing was written, or the lines were lost.
use Rattle.std.proofs.Common.{refl}
use Rattle.esdk_run.proofs.Auditing.{audit_unwritten, lines_unwritten}
use Rattle.esdk_run.proofs.audit.write_findings.Goals as goal

pub returns-in-Err-clause-fails : goal.returns-in-Err-clause-fails
returns-in-Err-clause-fails g c =
    audit_unwritten _ _ _ _ _ _ _ c.in-Err.failure refl (rw c.in-Err.is at c.audit_file-ended.ensures.fails)

pub returns-clause-fails : goal.returns-clause-fails
returns-clause-fails g c =
    lines_unwritten _ _ _ _ _ _ _ _ _ c.write_lines.result (rw c.in-Ok.is at c.audit_file-ended.ensures.done)
    c.write_lines.ensures.fails
