-- Pair words: a key, behind it a colon where the key is required, and behind that `=` and the
-- value. A word of a required key may end there, and gives no pair.
use Rattle.std.specs.Prelude.{ℕ, ◌+◌, ◌-◌, ◌^◌, min, Bool, ◌&&◌, ◌||◌, ◌==◌, not, List, length}
use Rattle.std.specs.Prelude.{Option, Some, None, is_some, is_none, if◌then◌else◌}
use Rattle.std.specs.Io.BufRead.{ends_with_byte, strip_last}
use Rattle.std.specs.List.{list_any, before_first, after_first, position_or_len, filter_map}
use Rattle.esdk_args.specs.declared.pair_words.PairWord.{PairWord}

-- the byte is `=`
abbrev pub is_equals : ℕ → Bool
is_equals byte = byte == 61

-- what stands before the first `=`, or the whole word
abbrev pub key_part : List ℕ → List ℕ
key_part word = before_first is_equals word

-- what stands behind the first `=`, if there is one
abbrev pub value_part : List ℕ → Option (List ℕ)
value_part word = if list_any is_equals word then Some (after_first is_equals word) else None

-- a key is required by a colon (58) at its end, and is what stands before that colon; it isn't
-- empty, and it is required or has a value
unfoldable pub pair_of : List ℕ → Option PairWord
pair_of word =
    let required = ends_with_byte 58 (key_part word) in
    let key = strip_last 58 (key_part word) in
    if not (length key == 0) && (required || is_some (value_part word))
    then Some (record { key = key; value = value_part word; required = required }) else None

-- how many words stand before the first that names no pair
abbrev pub pairs_before : List (List ℕ) → ℕ
pairs_before words = position_or_len (λ word. is_none (pair_of word)) words

-- pair words are counted from 1, and the count stands still at 2^32 - 1
abbrev pub number_after : ℕ → ℕ
number_after before = min (before + 1) (2 ^ 32 - 1)

-- the number of the first word that names no pair
unfoldable pub bad_pair : List (List ℕ) → Option ℕ
bad_pair words = if pairs_before words == length words then None
    else Some (number_after (pairs_before words))

-- the pairs of the words that name one
abbrev pub pairs_of : List (List ℕ) → List PairWord
pairs_of words = filter_map pair_of words
