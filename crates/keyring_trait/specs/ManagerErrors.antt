-- What is shown of the errors.
use Rattle.std.specs.Prelude.{ℕ, List, codes}
use Rattle.esdk_fields.specs.Names.{fault_name, refusal_name}
use Rattle.keyring_trait.specs.declared.manager_errors.ManagerError.{ManagerError}
use Rattle.keyring_trait.specs.declared.manager_errors.ManagerError.TheVariants as errors

-- what is shown of why a manager gives nothing
unfoldable pub manager_error_text : ManagerError → List ℕ
manager_error_text (errors.Fault fault) = fault_name fault
manager_error_text (errors.Refusal refusal) = refusal_name refusal
manager_error_text errors.KeyringFault = codes "a keyring failed"
manager_error_text errors.Memory = codes "memory ran out"
