-- Why a call of an opener fails, where a header isn't unlocked.
use Rattle.std.specs.Prelude.{ℕ, List, codes}
use Rattle.message_format.specs.declared.unlock_errors.UnlockError.{UnlockError}
use Rattle.message_format.specs.declared.unlock_errors.UnlockError.TheVariants as locks
use Rattle.stream_open.specs.declared.errors.OpenError.{OpenError}
use Rattle.stream_open.specs.declared.errors.OpenError.TheVariants as errors
use Rattle.esdk_fields.specs.Names.{fault_name}

-- why a header isn't unlocked
abbrev pub locked_as : UnlockError → OpenError
locked_as (locks.Fault fault) = errors.Fault fault
locked_as locks.KeyringFault = errors.KeyringFault
locked_as locks.Memory = errors.Memory

-- what is shown of an error of an opener
unfoldable pub open_error_text : OpenError → List ℕ
open_error_text (errors.Fault fault) = fault_name fault
open_error_text errors.KeyringFault = codes "a keyring failed"
open_error_text errors.Stopped = codes "an earlier call answered an error"
open_error_text errors.Memory = codes "memory ran out"
