-- What the steps of reading a context find, unless memory runs out.
use Rattle.std.specs.Prelude.{◌≡◌, ℕ, ◌+◌, ◌<◌, true, false, List, length, Option, Some, None}
use Rattle.std.specs.Prelude.{slice_index_or}
use Rattle.std.specs.Ordering.{nat_cmp, is_lt}
use Rattle.std.specs.List.Sorted.{IsSortedBy}
use Rattle.std.specs.Cmp.Lexicographic.{slice_cmp}
use Rattle.std.specs.Global.{Vec}
use Rattle.context_codec.specs.Context.{KeyValue, KeyLess, is_text_pair, are_texts}

-- the pairs, or none
abbrev pub FindsPairs : Option (Vec KeyValue) → Option (List KeyValue) → Type 0
FindsPairs None pairs = pairs ≡ None
FindsPairs (Some found) pairs = pairs ≡ Some found.items

-- the pair as texts, or it holds none
abbrev pub FindsText : Option KeyValue → KeyValue → Type 0
FindsText None raw = is_text_pair raw ≡ false
FindsText (Some pair) raw = (is_text_pair raw ≡ true) × (pair ≡ raw)

-- the pairs as texts, or one of them holds none
abbrev pub FindsTexts : Option (Vec KeyValue) → List KeyValue → Type 0
FindsTexts None raw = are_texts raw ≡ false
FindsTexts (Some pairs) raw = (are_texts raw ≡ true) × (pairs.items ≡ raw)

-- no key is less than the one before it
abbrev pub IsSortedByKeys : List KeyValue → Type 0
IsSortedByKeys pairs = IsSortedBy (λ p q. is_lt (slice_cmp nat_cmp p.0 q.0)) pairs

-- at some place the key is not less than the one behind it
pub record HasTie (pairs : List KeyValue) : Type 0 where
  pub at : ℕ
  pub within : at + 1 < length pairs
  pub tied : (d : KeyValue) → ¬ (KeyLess (slice_index_or pairs at d)
      (slice_index_or pairs (at + 1) d))
