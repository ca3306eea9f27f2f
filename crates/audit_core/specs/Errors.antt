-- What is shown of the errors.
use Rattle.std.specs.Prelude.{ℕ, List, codes}
use Rattle.esdk_fields.specs.Names.{fault_name}
use Rattle.audit_core.specs.declared.errors.AuditError.{AuditError}
use Rattle.audit_core.specs.declared.errors.AuditError.TheVariants as errors

-- what is shown of why a file isn't audited
unfoldable pub audit_error_text : AuditError → List ℕ
audit_error_text (errors.Fault fault) = fault_name fault
audit_error_text errors.KeyringFault = codes "a keyring failed"
audit_error_text errors.Memory = codes "memory ran out"
