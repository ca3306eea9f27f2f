-- Lanes of bytes and lanes of wider numbers.
use Rattle.std.proofs.Common.{◌≡◌, ℕ, zero, suc, ◌+◌, ◌*◌, ◌/◌, ◌%◌, ◌^◌, ◌<◌, List, length, map, take, drop, get_or, Fits, w8, w16, w32, refl, sym, ap, ◌∙◌, arith}
use Rattle.std.specs.List.{range_with_len}
use Rattle.std.specs.Simd.Lanes.{Each1, chunk, digits_l, number_l}
use Rattle.std.proofs.lemmas.List.{drop_more, ext_get_or}
use Rattle.std.proofs.lemmas.List.FromFn.{get_or-map-range_with_len, length-map-range_with_len}
use Rattle.std.proofs.lemmas.Simd.{below_from_Fits, get_or_narrower, get_or_wider}
use Rattle.armour_core.specs.Widths.{four_bytes, two_bytes}

length-digits : (p n x : ℕ) → length (digits_l p n x) ≡ n
length-digits p zero x = refl
length-digits p (suc n) x = let h = length-digits p n (x / p) in omega (arith, h)

one_more : (v : List ℕ) (i n : ℕ) → i < length v → number_l 256 (take (n + 1) (drop i v)) ≡ get_or v i 0 + 256 * number_l 256 (take n (drop (i + 1) v))
one_more v i n within =
    let more : n + 1 ≡ suc n = omega arith in
    ap (λ (m : ℕ). number_l 256 (take m (drop i v))) more ∙ ap (λ (l : List ℕ). number_l 256 (take (suc n) l)) (drop_more v i 0 within)

pub words_are : (v : List ℕ) → length v ≡ 16 → Each1 (Fits w8) v → digits_l 65536 8 (number_l 256 v) ≡ map (two_bytes v) (range_with_len 0 8)
words_are v long fits =
    ext_get_or 0 (digits_l 65536 8 (number_l 256 v)) (map (two_bytes v) (range_with_len 0 8)) (length-digits 65536 8 (number_l 256 v) ∙ sym (length-map-range_with_len (two_bytes v) 0 8)) (λ j within.
    let here : j < 8 = omega (arith, within, length-digits 65536 8 (number_l 256 v)) in
    let first = one_more v (2 * j) 1 (omega (arith, here, long)) in
    let second = one_more v (2 * j + 1) 0 (omega (arith, here, long)) in
    let is : number_l 256 (chunk (2 * j) 2 v) ≡ two_bytes v j = omega (arith, first, second) in
    get_or_wider 256 2 65536 8 v j refl (below_from_Fits w8 v fits) here ∙ is ∙ sym (get_or-map-range_with_len (two_bytes v) 0 8 j j 0 here (omega arith)))

pub double_words_are : (v : List ℕ) → length v ≡ 16 → Each1 (Fits w8) v → digits_l 4294967296 4 (number_l 256 v) ≡ map (four_bytes v) (range_with_len 0 4)
double_words_are v long fits =
    ext_get_or 0 (digits_l 4294967296 4 (number_l 256 v)) (map (four_bytes v) (range_with_len 0 4)) (length-digits 4294967296 4 (number_l 256 v) ∙ sym (length-map-range_with_len (four_bytes v) 0 4)) (λ j within.
    let here : j < 4 = omega (arith, within, length-digits 4294967296 4 (number_l 256 v)) in
    let a = one_more v (4 * j) 3 (omega (arith, here, long)) in
    let b = one_more v (4 * j + 1) 2 (omega (arith, here, long)) in
    let c = one_more v (4 * j + 1 + 1) 1 (omega (arith, here, long)) in
    let d = one_more v (4 * j + 1 + 1 + 1) 0 (omega (arith, here, long)) in
    let two : 4 * j + 1 + 1 ≡ 4 * j + 2 = omega arith in
    let three : 4 * j + 1 + 1 + 1 ≡ 4 * j + 3 = omega arith in
    let is : number_l 256 (chunk (4 * j) 4 v) ≡ four_bytes v j =
    omega (arith, a, b, c, d, ap (λ (n : ℕ). get_or v n 0) two, ap (λ (n : ℕ). get_or v n 0) three) in
    get_or_wider 256 4 4294967296 4 v j refl (below_from_Fits w8 v fits) here ∙ is ∙ sym (get_or-map-range_with_len (four_bytes v) 0 4 j j 0 here (omega arith)))

-- parts of wider numbers
pub word_bytes_are : (v : List ℕ) → length v ≡ 8 → Each1 (Fits w16) v → digits_l 256 16 (number_l 65536 v) ≡ map (λ k. get_or v (k / 2) 0 / 256 ^ (k % 2) % 256) (range_with_len 0 16)
word_bytes_are v long fits =
    ext_get_or 0 (digits_l 256 16 (number_l 65536 v)) (map (λ k. get_or v (k / 2) 0 / 256 ^ (k % 2) % 256) (range_with_len 0 16))
    (length-digits 256 16 (number_l 65536 v) ∙ sym (length-map-range_with_len (λ k. get_or v (k / 2) 0 / 256 ^ (k % 2) % 256) 0 16)) (λ k within.
    let here : k < 16 = omega (arith, within, length-digits 256 16 (number_l 65536 v)) in
    let split : k ≡ 2 * (k / 2) + k % 2 = omega arith in
    ap (λ (n : ℕ). get_or (digits_l 256 16 (number_l 65536 v)) n 0) split
    ∙ get_or_narrower 65536 2 256 16 v (k / 2) (k % 2) refl (below_from_Fits w16 v fits) (omega arith) (omega (arith, here, split))
    ∙ sym (get_or-map-range_with_len (λ k. get_or v (k / 2) 0 / 256 ^ (k % 2) % 256) 0 16 k k 0 here (omega arith)))

pub double_word_bytes_are : (v : List ℕ) → length v ≡ 4 → Each1 (Fits w32) v → digits_l 256 16 (number_l 4294967296 v) ≡ map (λ k. get_or v (k / 4) 0 / 256 ^ (k % 4) % 256) (range_with_len 0 16)
double_word_bytes_are v long fits =
    ext_get_or 0 (digits_l 256 16 (number_l 4294967296 v)) (map (λ k. get_or v (k / 4) 0 / 256 ^ (k % 4) % 256) (range_with_len 0 16))
    (length-digits 256 16 (number_l 4294967296 v) ∙ sym (length-map-range_with_len (λ k. get_or v (k / 4) 0 / 256 ^ (k % 4) % 256) 0 16)) (λ k within.
    let here : k < 16 = omega (arith, within, length-digits 256 16 (number_l 4294967296 v)) in
    let split : k ≡ 4 * (k / 4) + k % 4 = omega arith in
    ap (λ (n : ℕ). get_or (digits_l 256 16 (number_l 4294967296 v)) n 0) split
    ∙ get_or_narrower 4294967296 4 256 16 v (k / 4) (k % 4) refl (below_from_Fits w32 v fits) (omega arith) (omega (arith, here, split))
    ∙ sym (get_or-map-range_with_len (λ k. get_or v (k / 4) 0 / 256 ^ (k % 4) % 256) 0 16 k k 0 here (omega arith)))
