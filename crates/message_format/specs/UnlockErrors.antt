-- What is shown of the errors.
use Rattle.std.specs.Prelude.{ℕ, List, codes}
use Rattle.esdk_fields.specs.Names.{fault_name}
use Rattle.message_format.specs.declared.unlock_errors.UnlockError.{UnlockError}
use Rattle.message_format.specs.declared.unlock_errors.UnlockError.TheVariants as errors

-- what is shown of why a header isn't unlocked
unfoldable pub unlock_error_text : UnlockError → List ℕ
unlock_error_text (errors.Fault fault) = fault_name fault
unlock_error_text errors.KeyringFault = codes "a keyring failed"
unlock_error_text errors.Memory = codes "memory ran out"
