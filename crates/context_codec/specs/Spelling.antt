-- The same acceptance without a reader: which bytes spell which pairs.
-- AWS Encryption SDK Specification, "Message Header", AAD, Key Value Pairs.
use Rattle.std.specs.Prelude.{◌≡◌, ◌≢◌, ◌⊎◌, ℕ, List, [], All, AllPairs}
use Rattle.std.specs.List.Sorted.{IsPermutation}
use Rattle.std.specs.Str.{IsUtf8}
use Rattle.context_codec.specs.Context.{KeyValue, pairs_text, IsAscending}

-- The bytes are the count and the pairs one after another, in this order. No pairs are also spelled
-- by no bytes.
abbrev pub IsSpelling : List ℕ → List KeyValue → Type 0
IsSpelling bytes pairs = (bytes ≡ pairs_text pairs) ⊎ ((bytes ≡ []) × (pairs ≡ []))

-- every key and every value is UTF-8
abbrev pub AreTexts : List KeyValue → Type 0
AreTexts pairs = All (λ p. IsUtf8 p.0 × IsUtf8 p.1) pairs

-- no key stands twice
abbrev pub AreDistinct : List KeyValue → Type 0
AreDistinct pairs = AllPairs (λ p q. p.0 ≢ q.0) pairs

-- The bytes are a spelling of texts with distinct keys, which are the context's pairs in some
-- order.
pub record IsSpelledContext (bytes : List ℕ) (context : List KeyValue) : Type 0 where
  pub pairs : List KeyValue
  pub spelled : IsSpelling bytes pairs
  pub texts : AreTexts pairs
  pub distinct : AreDistinct pairs
  pub same : IsPermutation pairs context
  pub ascending : IsAscending context
