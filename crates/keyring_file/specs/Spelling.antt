-- The same acceptance without splitting: which bytes are the line of which key.
use Rattle.std.specs.Prelude.{◌≡◌, ◌≢◌, ◌⊎◌, ◌≤◌, ℕ, false, List, [], ◌∷◌, ◌++◌, length, All, Ok}
use Rattle.std.specs.Str.{IsUtf8}
use Rattle.hex.specs.Hex.{decode_sized}
use Rattle.keyring_trait.specs.Wrapping.{WrapKeyValue}
use Rattle.raw_aes_keyring.specs.RawKey.{reserved_namespace}

-- a namespace or a name: 1 to 1,024 bytes, and no space among them
pub record IsWord (word : List ℕ) : Type 0 where
  pub some : 1 ≤ length word
  pub short : length word ≤ 1024
  pub unspaced : All (λ b. b ≢ 32) word

-- What a line's key keeps.
pub record IsLineKey (w : WrapKeyValue) : Type 0 where
  pub namespace : IsWord w.namespace
  pub name : IsWord w.name
  pub unreserved : w.namespace ≢ reserved_namespace
  pub active : w.retired ≡ false

-- a line's end: nothing, or a line feed
abbrev pub IsLineEnd : List ℕ → Type 0
IsLineEnd end = (end ≡ []) ⊎ (end ≡ 10 ∷ [])

-- namespace, space, name, space, digits, end
abbrev pub line_text : WrapKeyValue → List ℕ → List ℕ → List ℕ
line_text w digits end = w.namespace ++ 32 ∷ w.name ++ 32 ∷ digits ++ end

-- The bytes are the line of this key, in UTF-8. Its 32 bytes are spelled by two digits of either
-- case each.
pub record IsKeyLine (bytes : List ℕ) (w : WrapKeyValue) : Type 0 where
  pub digits : List ℕ
  pub end : List ℕ
  pub key : IsLineKey w
  pub spelled : decode_sized digits 32 ≡ Ok w.key
  pub ends : IsLineEnd end
  pub line : bytes ≡ line_text w digits end
  pub text : IsUtf8 bytes
