-- The value of a JSON text.
use Rattle.std.proofs.Common.{◌≡◌, ℕ, Bool, true, false, List, refl, ◌∙◌, ap}
use Rattle.std.specs.Prelude.{Option, None, if◌then◌else◌}
use Rattle.std.specs.Str.{IsUtf8, is_utf8}
use Rattle.std.proofs.lemmas.Str.{IsUtf8-from_is_utf8, is_utf8-from_IsUtf8}
use Rattle.serde_json.specs.Data.{Data}
use Rattle.serde_json.specs.Read.{read}
use Rattle.json_values.specs.Values.{json_value}

pub text_value : (bytes : List ℕ) (found : Option Data) → IsUtf8 bytes → read bytes ≡ found → json_value bytes ≡ found
unfolding json_value
text_value bytes found text is = ap (λ b. if b then read bytes else None) (is_utf8-from_IsUtf8 bytes text) ∙ is

neither : (test : Bool) (found : Option Data) → (test ≡ true → found ≡ None) → (if test then found else None) ≡ None
neither true found none = none refl
neither false found none = refl

pub no_value : (bytes : List ℕ) → (IsUtf8 bytes → read bytes ≡ None) → json_value bytes ≡ None
unfolding json_value
no_value bytes none = neither (is_utf8 bytes) (read bytes) (λ text. none (IsUtf8-from_is_utf8 bytes text))
