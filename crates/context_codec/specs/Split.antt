-- Reading the text of a context: AWS Encryption SDK Specification, "Message Header", AAD, Key Value
-- Pairs.
use Rattle.std.specs.Prelude.{◌≡◌, ℕ, Bool, true, not, List, [], ◌∷◌, length, Option, Some, None}
use Rattle.std.specs.Prelude.{◌==◌, if◌then◌else◌, count_by}
use Rattle.std.specs.List.{list_all}
use Rattle.std.specs.List.Sorted.{IsPermutation}
use Rattle.std.specs.Int.{w16}
use Rattle.esdk_fields.specs.declared.faults.ContextFault.{ContextFault}
use Rattle.esdk_fields.specs.declared.faults.ContextFault.TheVariants.{Length, Utf8, Duplicate}
use Rattle.esdk_fields.specs.Place.{start}
use Rattle.esdk_fields.specs.Reading.{Reading, Read, Refused, Wanting, FieldReader, ◌>>=◌, done}
use Rattle.esdk_fields.specs.Reading.{number, repeat}
use Rattle.esdk_fields.specs.Sized.{sized_bytes}
use Rattle.context_codec.specs.Context.{KeyValue, are_texts, has_key, IsAscending}

unfoldable pub pair : FieldReader KeyValue
pair = do
  key ← sized_bytes
  value ← sized_bytes
  done (key, value)

-- two bytes of count, and that many pairs
unfoldable pub counted_pairs : FieldReader (List KeyValue)
counted_pairs = do
  n ← number w16
  repeat pair n

-- what was read, where that used up the bytes
abbrev pub whole : {A : Type 0} → Reading A → Option A
whole (Read value next) = if length next.left == 0 then Some value else None
whole (Refused fault at) = None
whole Wanting = None

-- The pairs that the bytes spell, in the order in which they stand there. No bytes are no pairs.
unfoldable pub split : List ℕ → Option (List KeyValue)
split [] = Some []
split (b ∷ bs) = whole (counted_pairs (start (b ∷ bs)))

-- each key stands once
abbrev pub keys_once : List KeyValue → Bool
keys_once pairs = list_all (λ p. count_by (has_key p.0) pairs == 1) pairs

abbrev pub fault_in : Option (List KeyValue) → Option ContextFault
fault_in None = Some Length
fault_in (Some pairs) =
    if not (are_texts pairs) then Some Utf8 else if not (keys_once pairs) then Some Duplicate
    else None

-- what is wrong with the bytes, as the text of a context
unfoldable pub context_fault : List ℕ → Option ContextFault
context_fault bytes = fault_in (split bytes)

-- The bytes spell this context: its pairs, in some order.
pub record SpellsContext (bytes : List ℕ) (context : List KeyValue) : Type 0 where
  pub pairs : List KeyValue
  pub spelled : split bytes ≡ Some pairs
  pub texts : are_texts pairs ≡ true
  pub same : IsPermutation pairs context
  pub ascending : IsAscending context
