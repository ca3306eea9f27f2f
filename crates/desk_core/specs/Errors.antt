-- What is shown of the errors.
use Rattle.std.specs.Prelude.{ℕ, List, codes}
use Rattle.esdk_fields.specs.Names.{fault_name, refusal_name}
use Rattle.desk_core.specs.declared.errors.DeskError.{DeskError}
use Rattle.desk_core.specs.declared.errors.DeskError.TheVariants as errors

-- what is shown of an error of a desk
unfoldable pub desk_error_text : DeskError → List ℕ
desk_error_text errors.NotLive = codes "no session of this number is live"
desk_error_text (errors.Refusal refusal) = refusal_name refusal
desk_error_text (errors.Fault fault) = fault_name fault
desk_error_text errors.KeyringFault = codes "a keyring failed"
desk_error_text errors.Memory = codes "memory ran out"
