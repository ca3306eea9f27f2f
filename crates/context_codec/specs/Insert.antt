-- One more pair in a context.
use Rattle.std.specs.Prelude.{◌≡◌, ℕ, List, ◌∷◌, length, Option, Some, None, codes, nat_lt}
use Rattle.std.specs.Prelude.{if◌then◌else◌}
use Rattle.std.specs.List.{list_any}
use Rattle.esdk_fields.specs.declared.refusals.Refusal.{Refusal}
use Rattle.esdk_fields.specs.declared.refusals.Refusal.TheVariants.{ContextTooLong, DuplicateKey}
use Rattle.esdk_fields.specs.Names.{refusal_name}
use Rattle.context_codec.specs.declared.insert.PairError.{PairError}
use Rattle.context_codec.specs.declared.insert.PairError.TheVariants as errors
use Rattle.context_codec.specs.Context.{KeyValue, has_key, ctx_text}

-- the length that the text has with one more pair
unfoldable pub grown : List KeyValue → KeyValue → ℕ
grown pairs p = length (ctx_text (p ∷ pairs))

-- Q3, where the key is there already; else Q2, where the text would be longer than its length field
-- can say
abbrev pub refusal_of : List KeyValue → KeyValue → Option Refusal
refusal_of pairs p =
    if list_any (has_key p.0) pairs then Some (DuplicateKey p.0)
    else if nat_lt 65535 (grown pairs p) then Some (ContextTooLong (grown pairs p)) else None

-- the error is that refusal; want of memory may come at any time
abbrev pub RefusesAs : PairError → Option Refusal → Type 0
RefusesAs errors.Memory refusal = Unit {0}
RefusesAs (errors.Refusal r) refusal = refusal ≡ Some r

-- what is shown of an error: the refusal's number and name, or want of memory
unfoldable pub pair_error_text : PairError → List ℕ
pair_error_text (errors.Refusal refusal) = refusal_name refusal
pair_error_text errors.Memory = codes "memory ran out"
