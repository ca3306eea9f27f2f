-- What is asked of a materials manager. AWS Encryption SDK Specification, "CMM Interface",
-- Encryption Materials Request and Decrypt Materials Request.
use Rattle.std.specs.Prelude.{◌≡◌, ℕ, true, not, List, All, Option, option_map, find}
use Rattle.esdk_fields.specs.declared.refusals.Refusal.{Refusal}
use Rattle.esdk_fields.specs.declared.refusals.Refusal.TheVariants.{RequiredAbsent}
use Rattle.context_codec.specs.Context.{KeyValue}
use Rattle.context_codec.specs.Parts.{holds}
use Rattle.edk_codec.specs.Entry.{Entry}

-- To encrypt: the whole context, the keys of it that a reader has to give, and the number of bytes
-- to come, where it is declared.
pub record EncRequestValue : Type 0 where
  pub context : List KeyValue
  pub required : List (List ℕ)
  pub declared : Option ℕ

-- To decrypt: the header's suite, the pairs that it stores, the pairs that the caller gives, and
-- the header's entries.
pub record DecRequestValue : Type 0 where
  pub suite : ℕ
  pub stored : List KeyValue
  pub given : List KeyValue
  pub entries : List Entry

-- every key is in the context
abbrev pub AllHeld : List KeyValue → List (List ℕ) → Type 0
AllHeld context keys = All (λ key. holds context key ≡ true) keys

-- Q4: the first of these keys that is not in the context
abbrev pub required_absent : List KeyValue → List (List ℕ) → Option Refusal
required_absent context keys =
    option_map RequiredAbsent (find (λ key. not (holds context key)) keys)
