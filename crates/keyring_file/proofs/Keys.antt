-- Which parts have a key.
use Rattle.std.proofs.Common.{◌≡◌, ◌≢◌, ◌≤◌, ℕ, Bool, true, false, not, List, [], ◌∷◌, length, refl, sym, ap, subst, arith}
use Rattle.std.specs.Prelude.{◌&&◌, ◌==◌, nat_le, Result, Ok, Err, if◌then◌else◌}
use Rattle.std.specs.Str.{bytes_eq}
use Rattle.std.proofs.lemmas.Bool.{eqb-false, le-leb, leb-true, ne_eqb, not-true}
use Rattle.hex.specs.Hex.{decode_sized}
use Rattle.hex.specs.declared.error.FromHexError.{FromHexError}
use Rattle.esdk_fields.specs.declared.refusals.FileRefusal.{FileRefusal}
use Rattle.esdk_fields.specs.declared.refusals.FileRefusal.TheVariants.{BadShape, ReservedNamespace}
use Rattle.keyring_trait.specs.Wrapping.{WrapKeyValue}
use Rattle.raw_aes_keyring.specs.RawKey.{reserved_namespace}
use Rattle.keyring_file.specs.KeyLine.{is_word, key_in_parts, key_of_parts, key_with}

-- ---- words

and_both : (a b : Bool) → (a && b) ≡ true → (a ≡ true) × (b ≡ true)
and_both true true e = (refl, refl)
and_both true false e = absurd cc
and_both false b e = absurd cc

pub record HasWordLength (word : List ℕ) : Type 0 where
  pub some : 1 ≤ length word
  pub short : length word ≤ 1024

pub word_length : (word : List ℕ) → is_word word ≡ true → HasWordLength word
word_length word e =
    let t = and_both (not (length word == 0)) (nat_le (length word) 1024) e in
    let other : length word ≢ 0 = eqb-false (length word) 0 (not-true (length word == 0) t.0) in
    record { some = omega (arith, other); short = leb-true (length word) 1024 t.1 }

pub word_is : (word : List ℕ) → 1 ≤ length word → length word ≤ 1024 → is_word word ≡ true
word_is word some short = rw (ne_eqb (length word) 0 (λ e. omega arith), le-leb (length word) 1024 short) refl

-- ---- parts

-- the parts of this key
pub record AreParts (parts : List (List ℕ)) (w : WrapKeyValue) : Type 0 where
  pub digits : List ℕ
  pub are : parts ≡ w.namespace ∷ w.name ∷ digits ∷ []
  pub namespace : is_word w.namespace ≡ true
  pub name : is_word w.name ≡ true
  pub unreserved : bytes_eq w.namespace reserved_namespace ≡ false
  pub spelled : decode_sized digits 32 ≡ Ok w.key
  pub active : w.retired ≡ false

record Passed (words reserved : Bool) (r : Result WrapKeyValue FileRefusal) (w : WrapKeyValue) : Type 0 where
  words_are : words ≡ true
  reserved_is : reserved ≡ false
  rest : r ≡ Ok w

passed : (words reserved : Bool) (r : Result WrapKeyValue FileRefusal) (w : WrapKeyValue)
    → (if not words then Err (BadShape 1) else if reserved then Err ReservedNamespace else r) ≡ Ok w → Passed words reserved r w
passed false reserved r w e = absurd cc
passed true true r w e = absurd cc
passed true false r w e = record { words_are = refl; reserved_is = refl; rest = e }

abbrev made : List ℕ → List ℕ → List ℕ → WrapKeyValue
made a b key = record { namespace = a; name = b; key = key; retired = false }

same_key : (a b key : List ℕ) (w : WrapKeyValue) → key_with a b (Ok key) ≡ Ok w → made a b key ≡ w
same_key a b key w e = cc

decoded : (a b digits : List ℕ) (r : Result (List ℕ) FromHexError) (w : WrapKeyValue) → decode_sized digits 32 ≡ r → is_word a ≡ true → is_word b ≡ true → bytes_eq a reserved_namespace ≡ false
    → key_with a b r ≡ Ok w → AreParts (a ∷ b ∷ digits ∷ []) w
decoded a b digits (Ok key) w is one two other e =
    subst (AreParts (a ∷ b ∷ digits ∷ [])) (same_key a b key w e)
    (record { digits = digits; are = refl; namespace = one; name = two; unreserved = other; spelled = is; active = refl })
decoded a b digits (Err why) w is one two other e = absurd cc

three_read : (a b digits : List ℕ) (w : WrapKeyValue) → key_of_parts a b digits ≡ Ok w → AreParts (a ∷ b ∷ digits ∷ []) w
unfolding key_of_parts
three_read a b digits w e =
    let p = passed (is_word a && is_word b) (bytes_eq a reserved_namespace) (key_with a b (decode_sized digits 32)) w e in
    let words = and_both (is_word a) (is_word b) p.words_are in
    decoded a b digits (decode_sized digits 32) w refl words.0 words.1 p.reserved_is p.rest

pub parts_read : (parts : List (List ℕ)) (w : WrapKeyValue) → key_in_parts parts ≡ Ok w → AreParts parts w
parts_read [] w e = absurd cc
parts_read (a ∷ []) w e = absurd cc
parts_read (a ∷ b ∷ []) w e = absurd cc
parts_read (a ∷ b ∷ digits ∷ []) w e = three_read a b digits w e
parts_read (a ∷ b ∷ c ∷ d ∷ parts) w e = absurd cc

pub parts_are_read : (parts : List (List ℕ)) (w : WrapKeyValue) → AreParts parts w → key_in_parts parts ≡ Ok w
unfolding key_of_parts
parts_are_read parts w p = rw (p.are, p.namespace, p.name, p.unreserved, p.spelled) (ap (λ retired. Ok (record w { retired = retired })) (sym p.active))
