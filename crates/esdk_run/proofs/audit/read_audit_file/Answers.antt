use Rattle.esdk_decrypt.proofs.Concluding.{passed_on}
use Rattle.job_file.specs.Audit.{audit_of}
use Rattle.esdk_run.proofs.Preparing.{file_not_read, file_not_taken}
use Rattle.esdk_run.proofs.audit.read_audit_file.Goals as goal

pub returns-in_err-bytes-clause-cause : goal.returns-in_err-bytes-clause-cause
returns-in_err-bytes-clause-cause g c =
    passed_on _ c.from_residual.result c.in_err-bytes.field-0.0 c.from_residual.ensures.1
    (file_not_taken audit_of _ _ _ _ c.in_err-bytes.ensures.cause)

pub returns-clause-cause : goal.returns-clause-cause
returns-clause-cause g c =
    file_not_read audit_of _ _ _ _ _ c.audit_in.result c.bytes-2.ensures c.in_ok-bytes.ensures.file
    c.audit_in.ensures.cause
