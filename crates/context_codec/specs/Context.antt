-- Encryption contexts, and the one text of each. AWS Encryption SDK Specification: "Structures",
-- Encryption Context; "Message Header", AAD, Key Value Pairs.
use Rattle.std.specs.Prelude.{◌≡◌, ℕ, ◌≤◌, Bool, true, ◌&&◌, List, [], ◌∷◌, ◌++◌, length}
use Rattle.std.specs.Ordering.{nat_cmp}
use Rattle.std.specs.declared.cmp.Ordering.TheVariants.{Less}
use Rattle.std.specs.Cmp.Lexicographic.{slice_cmp}
use Rattle.std.specs.List.{AllAdjacentBelow, flat_map, list_all}
use Rattle.std.specs.Str.{is_utf8, bytes_eq}
use Rattle.std.specs.Int.{w16}
use Rattle.esdk_fields.specs.Numbers.{to_big_endian}
use Rattle.esdk_fields.specs.Sized.{sized}

-- a key and its value, as bytes
abbrev pub KeyValue : Type 0
KeyValue = List ℕ × List ℕ

-- key and value are UTF-8
abbrev pub is_text_pair : KeyValue → Bool
is_text_pair p = is_utf8 p.0 && is_utf8 p.1

abbrev pub are_texts : List KeyValue → Bool
are_texts pairs = list_all is_text_pair pairs

abbrev pub has_key : List ℕ → KeyValue → Bool
has_key key p = bytes_eq key p.0

-- keys are ordered by their bytes
abbrev pub KeyLess : KeyValue → KeyValue → Type 0
KeyLess p q = slice_cmp nat_cmp p.0 q.0 ≡ Less

-- the keys ascend, so that none stands twice
abbrev pub IsAscending : List KeyValue → Type 0
IsAscending pairs = AllAdjacentBelow KeyLess pairs (length pairs)

-- key length, key, value length, value
unfoldable pub pair_text : KeyValue → List ℕ
pair_text p = sized p.0 ++ sized p.1

-- the count of the pairs, and the pairs one after another
unfoldable pub pairs_text : List KeyValue → List ℕ
pairs_text pairs = to_big_endian w16 (length pairs) ++ flat_map pair_text pairs

-- The text of a context. The empty context has the empty text.
abbrev pub ctx_text : List KeyValue → List ℕ
ctx_text [] = []
ctx_text (p ∷ pairs) = pairs_text (p ∷ pairs)

-- What the type of contexts keeps.
pub record IsContext (pairs : List KeyValue) : Type 0 where
  pub ascending : IsAscending pairs
  pub texts : are_texts pairs ≡ true
  pub short : length (ctx_text pairs) ≤ 65535
