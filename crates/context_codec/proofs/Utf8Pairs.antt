-- Pairs of texts, from what std says of UTF-8.
use Rattle.std.proofs.Common.{◌≡◌, ℕ, true, false, List}
use Rattle.std.specs.Str.{IsUtf8, is_utf8}
use Rattle.std.proofs.lemmas.Bool.{false_from_ne_true, and_left, and_right, and_from}
use Rattle.std.proofs.lemmas.Str.{IsUtf8-from_is_utf8, is_utf8-from_IsUtf8}
use Rattle.context_codec.specs.Context.{KeyValue, is_text_pair}

no_text : (bytes : List ℕ) → ¬ (IsUtf8 bytes) → is_utf8 bytes ≡ false
no_text bytes h = false_from_ne_true (is_utf8 bytes) (λ e. h (IsUtf8-from_is_utf8 bytes e))

pub no_key : (key value : List ℕ) → ¬ (IsUtf8 key) → is_text_pair (key, value) ≡ false
no_key key value h = and_left (is_utf8 key) (is_utf8 value) (no_text key h)

pub no_value : (key value : List ℕ) → ¬ (IsUtf8 value) → is_text_pair (key, value) ≡ false
no_value key value h = and_right (is_utf8 key) (is_utf8 value) (no_text value h)

pub both : (key value : List ℕ) (made : KeyValue) → IsUtf8 key → IsUtf8 value → made ≡ (key, value) → (is_text_pair (key, value) ≡ true) × (made ≡ (key, value))
both key value made key_text value_text is =
    (and_from (is_utf8 key) (is_utf8 value) (is_utf8-from_IsUtf8 key key_text) (is_utf8-from_IsUtf8 value value_text), is)
