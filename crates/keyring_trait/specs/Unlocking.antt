-- What a reader makes of a header's stored pairs and entries, of the pairs that the caller gives,
-- of the keys that it requires, and of its wrapping keys. AWS Encryption SDK Specification,
-- "Default CMM" and "Required Encryption Context CMM", Decrypt Materials.
use Rattle.std.specs.Prelude.{ℕ, Bool, not, List, [], ◌∷◌, Option, Some, None, option_map, find}
use Rattle.std.specs.Prelude.{if◌then◌else◌, codes}
use Rattle.esdk_fields.specs.declared.faults.Fault.{Fault}
use Rattle.esdk_fields.specs.declared.faults.Fault.TheVariants.{ReservedKey, MissingRequired}
use Rattle.esdk_fields.specs.declared.faults.Fault.TheVariants.{NoKeyOpens}
use Rattle.context_codec.specs.Context.{KeyValue}
use Rattle.context_codec.specs.Join.{mismatch, too_long}
use Rattle.edk_codec.specs.Entry.{Entry}
use Rattle.context_codec.specs.Parts.{holds, only_given, whole_of}
use Rattle.keyring_trait.specs.Wrapping.{WrapKeyValue, first_some, unwrapped}

-- A reader's answer: a fault, or the whole context, its pairs that are only authenticated, and the
-- data key.
pub data Unlocking : Type 0 where
  Refuses : (fault : Fault) → Unlocking
  Unlocks : (whole only : List KeyValue) (key : List ℕ) → Unlocking

-- the key that the format keeps for itself
abbrev pub reserved_key : List ℕ
reserved_key = codes "aws-crypto-public-key"

abbrev pub when : Bool → Fault → Option Fault
when b fault = if b then Some fault else None

-- M13: the first required key that is not given
abbrev pub missing_required : List KeyValue → List (List ℕ) → Option Fault
missing_required given required =
    option_map MissingRequired (find (λ key. not (holds given key)) required)

-- M11: the reserved key is stored
abbrev pub reserved_stored : List KeyValue → Option Fault
reserved_stored stored = when (holds stored reserved_key) ReservedKey

-- What is wrong with the pairs, in this order. The keys that are required and the stored pairs
-- ascend, so that the first such key is the least.
unfoldable pub offences : List KeyValue → List KeyValue → List (List ℕ) → List (Option Fault)
offences stored given required =
    missing_required given required ∷ reserved_stored stored ∷ mismatch stored given
    ∷ too_long (whole_of stored given) ∷ []

-- the first of them
abbrev pub pair_offence : List KeyValue → List KeyValue → List (List ℕ) → Option Fault
pair_offence stored given required = first_some (λ o. o) (offences stored given required)

-- M15: no key opens an entry
abbrev pub opens_with : List KeyValue → List KeyValue → Option (List ℕ) → Unlocking
opens_with whole only None = Refuses NoKeyOpens
opens_with whole only (Some key) = Unlocks whole only key

abbrev pub unless : Option Fault → Unlocking → Unlocking
unless None answer = answer
unless (Some fault) answer = Refuses fault

-- The first offence of the pairs; else what opens an entry under the whole context.
unfoldable pub unlock : (stored : List KeyValue) (entries : List Entry) (given : List KeyValue)
    (required : List (List ℕ)) (keys : List WrapKeyValue) → Unlocking
unlock stored entries given required keys =
    unless (pair_offence stored given required)
    (opens_with (whole_of stored given) (only_given stored given)
    (unwrapped keys entries (whole_of stored given)))
