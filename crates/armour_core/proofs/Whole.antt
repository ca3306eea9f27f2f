-- Whole groups of base64, without padding.
use Rattle.std.proofs.Common.{◌≡◌, ℕ, ◌+◌, ◌/◌, ◌%◌, ◌≤◌, Bool, false, List, [], ◌∷◌, ◌++◌, length, take, replicate, slice_set, None, refl, sym, ap, ◌∙◌, arith}
use Rattle.std.proofs.lemmas.List.{append-nil}
use Rattle.std.proofs.lemmas.Grind.{take-set_at}
use Rattle.base64.specs.GeneralPurpose.{IsBytes, encode_of}
use Rattle.base64.specs.Rfc4648.{encode_symbols, padding_len}
use Rattle.base64.specs.Engines.{standard}
use Rattle.armour_core.specs.ArmourText.{armour_text}
use Rattle.armour_core.specs.LineLaws.{armour_line}
use Rattle.armour_core.specs.Sextets.{sextets_of, symbols_in}
use Rattle.armour_core.specs.Stands.{OpenGroup, open_from}
use Rattle.armour_core.specs.Unarmoured.{characters, groups_read}
use Rattle.armour_core.proofs.ReadBack.{groups_again, keep_encoded, no_padding}
use Rattle.armour_core.proofs.Sixes.{encoded}

pub whole_encoded : (xs : List ℕ) → length xs % 3 ≡ 0 → encode_of standard xs ≡ symbols_in xs
whole_encoded xs whole =
    let none : padding_len (length xs) ≡ 0 = omega (arith, whole) in
    let symbol : ℕ = 61 in
    ap (λ (n : ℕ). encode_symbols standard.encode_table xs ++ replicate n symbol) none ∙ append-nil (encode_symbols standard.encode_table xs) ∙ encoded xs whole

-- a full line as it is written
pub full_line : (bytes text : List ℕ) → length bytes ≡ 57 → 77 ≤ length text → take 76 text ≡ symbols_in bytes → take 77 (slice_set text 76 10) ≡ armour_text bytes
full_line bytes text full room is =
    take-set_at text 76 77 10 refl (omega (arith, room)) ∙ ap (λ (x : List ℕ). x ++ 10 ∷ []) (is ∙ sym (whole_encoded bytes (omega (arith, full))))
    ∙ sym (armour_line bytes (omega (arith, full)) (omega (arith, full)))

-- ---- how they are read

pub groups_in : (n : ℕ) (xs : List ℕ) → length xs % 3 ≡ 0 → IsBytes xs → groups_read n false (symbols_in xs) ≡ record { bytes = xs; bad = None }
groups_in n xs whole are = ap (groups_read n false) (sym (whole_encoded xs whole)) ∙ groups_again n xs are

pub kept_in : (xs : List ℕ) → length xs % 3 ≡ 0 → characters (symbols_in xs) ≡ symbols_in xs
kept_in xs whole = ap characters (sym (whole_encoded xs whole)) ∙ keep_encoded xs ∙ whole_encoded xs whole

pub open_in : (n : ℕ) (xs : List ℕ) → length xs % 3 ≡ 0 → open_from n false (symbols_in xs) ≡ record { number = n + length xs / 3; padded = false; held = [] }
unfolding sextets_of open_from
open_in n [] whole = let none : n ≡ n + 0 / 3 = omega arith in ap (λ (k : ℕ). let o : OpenGroup = record { number = k; padded = false; held = [] } in o) none
open_in n (a ∷ []) whole = absurd (omega (arith, whole))
open_in n (a ∷ b ∷ []) whole = absurd (omega (arith, whole))
open_in n (a ∷ b ∷ c ∷ xs) whole =
    let all : List ℕ = a ∷ b ∷ c ∷ xs in
    let more : n + 1 + length xs / 3 ≡ n + length all / 3 = omega arith in
    ap (λ (p : Bool). open_from (n + 1) p (symbols_in xs)) (no_padding (c % 64)) ∙ open_in (n + 1) xs (omega (arith, whole))
    ∙ ap (λ (k : ℕ). let o : OpenGroup = record { number = k; padded = false; held = [] } in o) more
