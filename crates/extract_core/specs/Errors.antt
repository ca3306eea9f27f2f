-- What is shown of the errors.
use Rattle.std.specs.Prelude.{ℕ, List, codes}
use Rattle.esdk_fields.specs.Names.{fault_name, outside_name}
use Rattle.extract_core.specs.declared.errors.ExtractError.{ExtractError}
use Rattle.extract_core.specs.declared.errors.ExtractError.TheVariants as errors

-- what is shown of why a range isn't extracted
unfoldable pub extract_error_text : ExtractError → List ℕ
extract_error_text (errors.Fault fault) = fault_name fault
extract_error_text (errors.Outside outside) = outside_name outside
extract_error_text errors.Memory = codes "memory ran out"
