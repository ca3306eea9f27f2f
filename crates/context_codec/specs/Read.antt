-- What reading the text of a context answers.
use Rattle.std.specs.Prelude.{◌≡◌, Option, Some, option_map}
use Rattle.esdk_fields.specs.declared.faults.Fault.TheVariants.{BadContext}
use Rattle.esdk_fields.specs.declared.faults.ContextFault.{ContextFault}
use Rattle.esdk_fields.specs.declared.refusals.FieldError.{FieldError}
use Rattle.esdk_fields.specs.declared.refusals.FieldError.TheVariants as errors

-- the error is M3 with what is wrong; want of memory may come at any time
abbrev pub ReadRefusesAs : FieldError → Option ContextFault → Type 0
ReadRefusesAs errors.Memory fault = Unit {0}
ReadRefusesAs errors.Stopped fault = ⊥
ReadRefusesAs (errors.Fault f) fault = option_map BadContext fault ≡ Some f

-- M3 as an error
abbrev pub refusal : ContextFault → FieldError
refusal fault = errors.Fault (BadContext fault)
