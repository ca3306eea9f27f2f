-- How many bytes a text gives: fewer than it has.
use Rattle.std.proofs.Common.{◌≡◌, ℕ, ◌+◌, ◌*◌, ◌^◌, ◌<◌, ◌≤◌, ◌==◌, not, Bool, true, false, List, [], ◌∷◌, length, Option, Some, None, Ok, Err, refl, subst, arith, cond}
use Rattle.std.specs.Prelude.{nat_lt}
use Rattle.std.specs.Result.{result_ok}
use Rattle.std.proofs.lemmas.List.{length-append, length-take}
use Rattle.std.proofs.lemmas.List.Filters.{length-filter_both}
use Rattle.std.proofs.lemmas.Bool.{ltb-false}
use Rattle.esdk_base.specs.Streams.{most_input}
use Rattle.base64.specs.Decode.{bytes_fit, decode_error, decode_outcome, decoded_bytes, groups_before_last, groups_error, lone_error, or_else, or_error, suffix_error}
use Rattle.base64.specs.declared.decode.DecodeError.{DecodeError}
use Rattle.base64.specs.declared.decode.DecodeSliceError.TheVariants.{OutputSliceTooSmall}
use Rattle.base64.proofs.Decoding.{slice_result_room}
use Rattle.base64.specs.GeneralPurpose.{decoded_of}
use Rattle.base64.specs.Engines.{standard}
use Rattle.armour_core.specs.Outlook.{taken_front, text_outlook}
use Rattle.armour_core.specs.Unarmoured.{GroupsRead, characters, group_then, groups_read, is_character, padding, unarmoured}

-- ---- a group gives three bytes at the most

fitting : (n : ℕ) (b : Bool) → nat_lt 3 n ≡ b → cond b (Err OutputSliceTooSmall) (Ok n) ≡ Ok n → n ≤ 3
fitting n true is fits = absurd (cc fits)
fitting n false is fits = ltb-false 3 n is

-- where there is no error, the bytes fit
unrefused : (x y : Option DecodeError) (n : ℕ) → or_error x (or_error y (bytes_fit n 3)) ≡ or_error (or_else x y) (Ok n) → or_else x y ≡ None → n ≤ 3
unrefused None None n is none = fitting n (nat_lt 3 n) refl is
unrefused None (Some error) n is none = absurd (cc none)
unrefused (Some error) y n is none = absurd (cc none)

outcome_few : (error : Option DecodeError) (b bytes : List ℕ) → (error ≡ None → length b ≤ 3) → result_ok (decode_outcome error b) ≡ Some bytes → length bytes ≤ 3
outcome_few None b bytes few is = let same : b ≡ bytes = cc is in subst (λ (x : List ℕ). length x ≤ 3) same (few refl)
outcome_few (Some error) b bytes few is = absurd (cc is)

group_few : (a b c d : ℕ) (bytes : List ℕ) → decoded_of standard (a ∷ b ∷ c ∷ d ∷ []) ≡ Some bytes → length bytes ≤ 3
unfolding decoded_of
group_few a b c d bytes is =
    let s : List ℕ = a ∷ b ∷ c ∷ d ∷ [] in
    let room = slice_result_room standard.decode_table s standard.padding.value standard.config.decode_allow_trailing_bits standard.config.decode_padding_mode 3 (omega arith) in
    outcome_few (decode_error standard.decode_table standard.padding.value standard.config.decode_allow_trailing_bits standard.config.decode_padding_mode s)
    (decoded_bytes standard.decode_table standard.padding.value s) bytes
    (λ none. unrefused (lone_error standard.decode_table standard.padding.value s)
    (or_else (groups_error standard.decode_table s (groups_before_last (length s)))
    (suffix_error standard.decode_table standard.padding.value standard.config.decode_allow_trailing_bits standard.config.decode_padding_mode (4 * groups_before_last (length s)) s))
    (length (decoded_bytes standard.decode_table standard.padding.value s)) room none) is

-- ---- groups

then_few : (n : ℕ) (x : Option (List ℕ)) (r : GroupsRead) (count : ℕ) → ((bytes : List ℕ) → x ≡ Some bytes → length bytes ≤ 3)
    → 4 * length r.bytes ≤ 3 * count → 4 * length (group_then n x r).bytes ≤ 3 * (count + 4)
then_few n None r count few rest = omega arith
then_few n (Some bytes) r count few rest = let three = few bytes refl in omega (arith, three, rest, length-append bytes r.bytes)

read_few : (n : ℕ) (p : Bool) (cs : List ℕ) → 4 * length (groups_read n p cs).bytes ≤ 3 * length cs
unfolding groups_read
read_few n true [] = omega arith
read_few n true (a ∷ cs) = omega arith
read_few n false [] = omega arith
read_few n false (a ∷ []) = omega arith
read_few n false (a ∷ b ∷ []) = omega arith
read_few n false (a ∷ b ∷ c ∷ []) = omega arith
read_few n false (a ∷ b ∷ c ∷ d ∷ cs) =
    let all = then_few n (decoded_of standard (a ∷ b ∷ c ∷ d ∷ [])) (groups_read (n + 1) (d == padding) cs) (length cs)
    (λ bytes is. group_few a b c d bytes is) (read_few (n + 1) (d == padding) cs) in
    omega (arith, all)

-- ---- a text

-- what is taken of a text gives fewer than 2^62 bytes
pub outlook_few : (text : List ℕ) → length (text_outlook text).bytes < 2 ^ 62
unfolding text_outlook unarmoured
outlook_few text =
    let front : List ℕ = taken_front text in
    omega (
      arith,
      read_few 1 false (characters front),
      length-filter_both is_character (λ b. not (is_character b)) (λ b. refl) front,
      length-take most_input text,
    )
