-- The information of a raw AES entry: its length, and its parts.
use Rattle.std.proofs.Common.{◌≡◌, ℕ, ◌+◌, Bool, true, false, not, List, [], ◌∷◌, ◌++◌, length, take, drop, refl, ap, ◌∙◌, append_assoc, arith}
use Rattle.std.specs.Str.{bytes_eq}
use Rattle.std.proofs.lemmas.Slice.Eq.{bytes_eq-Decides}
use Rattle.std.proofs.lemmas.List.{length-append, take_at, drop_at}
use Rattle.esdk_fields.specs.Numbers.{to_big_endian}
use Rattle.edk_codec.specs.RawInfo.{raw_info}

-- the two lengths between the name and the IV
abbrev pub lengths : List ℕ
lengths = 0 ∷ 0 ∷ 0 ∷ 128 ∷ 0 ∷ 0 ∷ 0 ∷ 12 ∷ []

pub raw_info_parts : (name iv : List ℕ) → raw_info name iv ≡ name ++ (lengths ++ iv)
unfolding raw_info to_big_endian
raw_info_parts name iv = append_assoc (name ++ (0 ∷ 0 ∷ 0 ∷ 128 ∷ [])) (0 ∷ 0 ∷ 0 ∷ 12 ∷ []) iv ∙ append_assoc name (0 ∷ 0 ∷ 0 ∷ 128 ∷ []) (0 ∷ 0 ∷ 0 ∷ 12 ∷ iv)

pub length-raw_info : (name iv : List ℕ) → length (raw_info name iv) ≡ length name + (8 + length iv)
length-raw_info name iv = omega (arith, ap length (raw_info_parts name iv), length-append name (lengths ++ iv), length-append lengths iv)

-- the name stands first
pub name_of_raw_info : (info name iv : List ℕ) → info ≡ raw_info name iv → take (length name) info ≡ name
name_of_raw_info info name iv e = ap (take (length name)) (e ∙ raw_info_parts name iv) ∙ take_at name (lengths ++ iv) (length name) refl

-- then the lengths
pub lengths_of_raw_info : (info name iv : List ℕ) → info ≡ raw_info name iv → take 8 (drop (length name) info) ≡ lengths
lengths_of_raw_info info name iv e = ap (λ (x : List ℕ). take 8 (drop (length name) x)) (e ∙ raw_info_parts name iv) ∙ ap (take 8) (drop_at name (lengths ++ iv) (length name) refl) ∙ take_at lengths iv 8 refl

-- ---- comparisons of bytes

not_same : (b r : Bool) → r ≡ not b → r ≡ false → b ≡ true
not_same true r is answered = refl
not_same false r is answered = absurd cc

-- `!=` answered false: the bytes are the same
pub same_bytes : (r : Bool) (xs ys : List ℕ) → r ≡ not (bytes_eq xs ys) → r ≡ false → xs ≡ ys
same_bytes r xs ys is answered = (bytes_eq-Decides xs ys).0 (not_same (bytes_eq xs ys) r is answered)

-- `!=` answered true: they are not
pub other_bytes : (r : Bool) (xs ys : List ℕ) → r ≡ not (bytes_eq xs ys) → r ≡ true → xs ≡ ys → ⊥
other_bytes r xs ys is answered same =
    let yes : bytes_eq xs ys ≡ true = (bytes_eq-Decides xs ys).1 same in
    let no : r ≡ false = is ∙ ap not yes in
    cc
