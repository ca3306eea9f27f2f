-- The pairs that a header stores and those that a caller gives, joined into the whole context. AWS
-- Encryption SDK Specification, "Default CMM", Decrypt Materials; "Structures", Encryption Context.
-- The faults M12 and M14 are this library's.
use Rattle.std.specs.Prelude.{◌≡◌, ℕ, Bool, false, not, List, length, Option, Some, None}
use Rattle.std.specs.Prelude.{option_map, find, nat_lt, if◌then◌else◌}
use Rattle.std.specs.Map.{lookup}
use Rattle.std.specs.Option.{option_or}
use Rattle.std.specs.Str.{bytes_eq}
use Rattle.esdk_fields.specs.declared.faults.Fault.{Fault}
use Rattle.esdk_fields.specs.declared.faults.Fault.TheVariants.{ContextMismatch, ContextTooLong}
use Rattle.esdk_fields.specs.declared.refusals.FieldError.{FieldError}
use Rattle.esdk_fields.specs.declared.refusals.FieldError.TheVariants as errors
use Rattle.context_codec.specs.Context.{KeyValue, ctx_text}
use Rattle.context_codec.specs.Parts.{whole_of}

-- the value is there, and is another
abbrev pub differs : Option (List ℕ) → List ℕ → Bool
differs None value = false
differs (Some other) value = not (bytes_eq other value)

-- the pair's key is given, with another value
abbrev pub clashes : List KeyValue → KeyValue → Bool
clashes given p = differs (lookup (bytes_eq p.0) given) p.1

-- M12: the first key that is stored and given with different values
abbrev pub mismatch : List KeyValue → List KeyValue → Option Fault
mismatch stored given = option_map (λ p. ContextMismatch p.0) (find (clashes given) stored)

-- M14: the text of the whole context is longer than a field of two bytes can say
abbrev pub too_long : List KeyValue → Option Fault
too_long whole = if nat_lt 65535 (length (ctx_text whole))
    then Some (ContextTooLong (length (ctx_text whole))) else None

-- What is wrong with the two together. The stored pairs ascend, so that M12 names the least such
-- key.
unfoldable pub join_fault : List KeyValue → List KeyValue → Option Fault
join_fault stored given = option_or (mismatch stored given) (too_long (whole_of stored given))

-- the error is that fault; want of memory may come at any time
abbrev pub FaultsAs : FieldError → Option Fault → Type 0
FaultsAs (errors.Fault f) fault = fault ≡ Some f
FaultsAs errors.Stopped fault = ⊥
FaultsAs errors.Memory fault = Unit {0}
