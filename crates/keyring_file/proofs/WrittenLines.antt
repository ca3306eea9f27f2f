-- A line that is written from its key is read back.
use Rattle.std.proofs.Common.{◌≡◌, ◌*◌, ℕ, Bool, true, false, eqb, List, [], ◌∷◌, ◌++◌, length, get_or, refl, ap, ◌∙◌, inl, inr, arith, append_assoc}
use Rattle.std.specs.Prelude.{nat_lt, Ok}
use Rattle.std.specs.List.{list_all}
use Rattle.std.specs.Str.{IsAscii, IsUtf8}
use Rattle.std.proofs.lemmas.Str.{IsUtf8-append, IsUtf8-from_ascii, IsUtf8-nil}
use Rattle.std.proofs.lemmas.Str.Ascii.{IsAscii-cons, IsAscii-from_all, IsAscii-nil}
use Rattle.std.proofs.lemmas.Bool.{cases_lt, ltb-true, ne_eqb}
use Rattle.std.proofs.lemmas.List.{get_or_past}
use Rattle.std.proofs.lemmas.List.Sums.{AllPass-from_list_all}
use Rattle.hex.specs.Hex.{IsBytes, decode_sized, encode_lower, encode_upper, is_hex_digit, lower_digits, upper_digits}
use Rattle.hex.proofs.HexLemmas.{IsAscii-encode_with, decode_of-encode_upper, decode_sized-encode_lower, decode_sized-twice, length-encode_with}
use Rattle.esdk_fields.specs.Bytes.{AreBytes}
use Rattle.keyring_trait.specs.Wrapping.{WrapKeyValue}
use Rattle.keyring_file.specs.KeyLine.{key_line}
use Rattle.keyring_file.specs.KeyFile.{is_blank, is_json}
use Rattle.keyring_file.specs.Spelling.{IsLineEnd, line_text}
use Rattle.keyring_file.specs.Laws.{HasLine}
use Rattle.keyring_file.proofs.Lines.{AreDigits, digit_other, digits_of, spelled_is_read}

-- what is no JSON file at its front, and none behind, is none
unbraced : (xs ys : List ℕ) → is_json xs ≡ false → is_json ys ≡ false → is_json (xs ++ ys) ≡ false
unfolding is_json
unbraced [] ys front rest = rest
unbraced (x ∷ xs) ys front rest = by_blank (is_blank x) refl (λ before. unbraced xs ys before rest)
  where
    by_blank : (b : Bool) → is_blank x ≡ b → (is_json xs ≡ false → is_json (xs ++ ys) ≡ false) → is_json ((x ∷ xs) ++ ys) ≡ false
    by_blank true e others = rw e (others (rw e at front))
    by_blank false e others = rw e (rw e at front)

-- a digit is neither a blank nor a brace
digit_unbraced : (b : ℕ) (bytes : List ℕ) → is_hex_digit b ≡ true → is_json (b ∷ bytes) ≡ false
unfolding is_json
digit_unbraced b bytes digit =
    let other : (c : ℕ) → is_hex_digit c ≡ false → eqb b c ≡ false = λ c none. ne_eqb b c (digit_other b c digit none) in
    rw (other 32 refl, other 9 refl, other 10 refl, other 13 refl, other 123 refl) refl

digits_unbraced : (digits end : List ℕ) → AreDigits digits → is_json (32 ∷ digits ++ end) ≡ false
unfolding is_json
digits_unbraced [] end are = absurd (omega (arith, are.long))
digits_unbraced (b ∷ digits) end are = digit_unbraced b (digits ++ end) (are.each 0 0 (omega arith))

end_text : (end : List ℕ) → IsLineEnd end → IsUtf8 end
end_text end (inl none) = rw none IsUtf8-nil
end_text end (inr fed) = rw fed (IsUtf8-from_ascii (10 ∷ []) (IsAscii-cons 10 [] (omega arith) IsAscii-nil))

bytes_of : (key : List ℕ) → AreBytes key → IsBytes key
bytes_of key bytes = λ i. elim (cases_lt i (length key)) [
  | inl lt ↦ bytes i 0 lt
  | inr past ↦ let none : get_or key i 0 ≡ 0 = get_or_past key i 0 past in omega (arith, none)
]

-- each is below 128, as computing them all shows
ascii_by_test : (xs : List ℕ) → list_all (λ b. nat_lt b 128) xs ≡ true → IsAscii xs
ascii_by_test xs all = let pass = AllPass-from_list_all (λ b. nat_lt b 128) xs all in IsAscii-from_all xs (λ k d lt. ltb-true (get_or xs k d) 128 (pass k d lt))

-- no JSON file, and the line of this key
abbrev pub IsReadAs : List ℕ → WrapKeyValue → Type 0
IsReadAs bytes w = (is_json bytes ≡ false) × (key_line bytes ≡ Ok w)

pub line_is_read : (w : WrapKeyValue) (digits end : List ℕ) → HasLine w → decode_sized digits 32 ≡ Ok w.key → IsAscii digits → IsLineEnd end → IsReadAs (line_text w digits end) w
line_is_read w digits end has spelled ascii ends =
    let are = digits_of digits w.key spelled in
    let front = w.namespace ++ 32 ∷ w.name in
    let plain : is_json (line_text w digits end) ≡ false = ap is_json (append_assoc front (32 ∷ digits) end) ∙ unbraced front (32 ∷ digits ++ end) has.plain (digits_unbraced digits end are) in
    let space : IsUtf8 (32 ∷ []) = IsUtf8-from_ascii (32 ∷ []) (IsAscii-cons 32 [] (omega arith) IsAscii-nil) in
    let text : IsUtf8 (line_text w digits end) =
    IsUtf8-append (front ++ 32 ∷ digits) end (IsUtf8-append front (32 ∷ digits) (IsUtf8-append w.namespace (32 ∷ w.name) has.namespace (IsUtf8-append (32 ∷ []) w.name space has.name))
    (IsUtf8-append (32 ∷ []) digits space (IsUtf8-from_ascii digits ascii))) (end_text end ends) in (
      plain,
      spelled_is_read (line_text w digits end) w (record {
        digits = digits;
        end = end;
        key = has.key;
        spelled = spelled;
        ends = ends;
        line = refl;
        text = text;
      }),
    )

pub lower_is_read : (w : WrapKeyValue) (end : List ℕ) → HasLine w → IsLineEnd end → IsReadAs (line_text w (encode_lower w.key) end) w
lower_is_read w end has ends =
    line_is_read w (encode_lower w.key) end has (decode_sized-encode_lower w.key 32 has.long (bytes_of w.key has.bytes)) (IsAscii-encode_with lower_digits w.key (ascii_by_test lower_digits refl)) ends

pub upper_is_read : (w : WrapKeyValue) (end : List ℕ) → HasLine w → IsLineEnd end → IsReadAs (line_text w (encode_upper w.key) end) w
upper_is_read w end has ends =
    let twice : length (encode_upper w.key) ≡ 2 * 32 = length-encode_with upper_digits w.key ∙ omega (arith, has.long) in
    line_is_read w (encode_upper w.key) end has (decode_sized-twice (encode_upper w.key) 32 twice ∙ decode_of-encode_upper w.key (bytes_of w.key has.bytes)) (IsAscii-encode_with upper_digits w.key (ascii_by_test upper_digits refl)) ends
