-- What the errors of the calls below are called here.
use Rattle.std.specs.Prelude.{ℕ, List, codes}
use Rattle.keyring_trait.specs.declared.manager_errors.ManagerError.{ManagerError}
use Rattle.keyring_trait.specs.declared.manager_errors.ManagerError.TheVariants as managers
use Rattle.stream_open.specs.declared.errors.OpenError.{OpenError}
use Rattle.stream_open.specs.declared.errors.OpenError.TheVariants as opens
use Rattle.reseal_core.specs.declared.errors.ResealError.{ResealError}
use Rattle.reseal_core.specs.declared.errors.ResealError.TheVariants as errors
use Rattle.esdk_fields.specs.Names.{fault_name, refusal_name, outside_name}
use Rattle.reseal_core.specs.declared.errors.InputError.{InputError}
use Rattle.reseal_core.specs.declared.errors.InputError.TheVariants as inputs

-- an opener's error
abbrev pub open_error_as : OpenError → ResealError
open_error_as (opens.Fault fault) = errors.Fault fault
open_error_as opens.KeyringFault = errors.KeyringFault
open_error_as opens.Stopped = errors.Stopped
open_error_as opens.Memory = errors.Memory

-- an error of the manager of the new message
abbrev pub given_as : ManagerError → ResealError
given_as (managers.Fault fault) = errors.Fault fault
given_as (managers.Refusal refusal) = errors.Refusal refusal
given_as managers.KeyringFault = errors.KeyringFault
given_as managers.Memory = errors.Memory

-- what is shown of an error of a resealer
unfoldable pub reseal_error_text : ResealError → List ℕ
reseal_error_text (errors.Fault fault) = fault_name fault
reseal_error_text (errors.Refusal refusal) = refusal_name refusal
reseal_error_text errors.KeyringFault = codes "a keyring failed"
reseal_error_text errors.SinkFault = codes "the sink failed"
reseal_error_text errors.Stopped = codes "the resealer has stopped"
reseal_error_text errors.Memory = codes "memory ran out"

-- what is shown of why an input isn't resealed
unfoldable pub input_error_text : InputError → List ℕ
input_error_text (inputs.Fault fault) = fault_name fault
input_error_text (inputs.Refusal refusal) = refusal_name refusal
input_error_text (inputs.Outside outside) = outside_name outside
input_error_text inputs.Memory = codes "memory ran out"
