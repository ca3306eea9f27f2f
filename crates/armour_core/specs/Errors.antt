-- What is shown of the errors.
use Rattle.std.specs.Prelude.{ℕ, List, codes}
use Rattle.esdk_fields.specs.Names.{fault_name}
use Rattle.armour_core.specs.declared.errors.ArmourError.{ArmourError}
use Rattle.armour_core.specs.declared.errors.ArmourError.TheVariants as errors

-- what is shown of an error of the armour's reader
unfoldable pub armour_error_text : ArmourError → List ℕ
armour_error_text (errors.Fault fault) = fault_name fault
armour_error_text errors.Stopped = codes "the reader of the armour has stopped"
