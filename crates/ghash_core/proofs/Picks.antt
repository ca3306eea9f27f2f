-- Bytes of vectors that are picked for the lanes whose numbers have a bit.
use Rattle.std.proofs.Common.{◌≡◌, ◌⊎◌, ℕ, zero, suc, ◌+◌, ◌-◌, ◌*◌, ◌/◌, ◌%◌, ◌<◌, ◌||◌, T, List, cond, leb, ltb, length, replicate, get_or, bit_xor, w8, refl, sym, ap, subst, ◌∙◌, inl, inr, arith}
use Rattle.std.specs.Int.Bits.{xor_zero_l, xor_zero_r}
use Rattle.std.specs.Simd.Lanes.{zip2}
use Rattle.std.proofs.lemmas.Bool.{le-leb, lt-leb}
use Rattle.std.proofs.lemmas.List.{get_or-replicate}
use Rattle.std.proofs.lemmas.Simd.{swz_l, SwzOk, SwzOk-from_Each1, Each1-from_get_or, get_or-swz_l, length-replicate, length-swz_l}
use Rattle.cipher_spec.specs.Field.{add_if}
use Rattle.cipher_spec.proofs.Computed.{at_each, same_below}
use Rattle.ghash_core.specs.Tables.{AreMarks, chosen, marked}
use Rattle.ghash_core.specs.declared.planes.TheConstants.{WITHOUT_EIGHT, WITHOUT_FOUR, WITHOUT_ONE, WITHOUT_TWO}
use Rattle.ghash_core.proofs.Lanes.{lane_of_two, long_of_two}

-- ---- one byte

-- the place that a lane looks up
pub place_is : (k : ℕ) (marks : List ℕ) (n : ℕ) → length marks ≡ 16 → n < 16 → get_or (zip2 bit_xor (replicate 16 k) marks) n 0 ≡ bit_xor k (get_or marks n 0)
place_is k marks n long h =
    lane_of_two bit_xor (replicate 16 k) marks 16 n (length-replicate 16 k) long h ∙ ap (λ a. bit_xor a (get_or marks n 0)) (get_or-replicate 16 n k 0 h)

far : (k : ℕ) → k < 16 → bit_xor k 128 ≡ k + 128
far k h = same_below (λ k. bit_xor k 128) (λ k. k + 128) 16 tt k h

is_place : (k m j : ℕ) → k < 16 → (m ≡ 0) ⊎ (m ≡ 128) → j ≡ bit_xor k m → T (leb 128 j || ltb j 16)
is_place k m j h mark e = elim mark [
  | inl z ↦ subst (λ j. T (leb 128 j || ltb j 16)) (sym (e ∙ ap (bit_xor k) z)) (at_each (λ k. leb 128 (bit_xor k 0) || ltb (bit_xor k 0) 16) 16 tt k h)
  | inr g ↦ subst (λ j. T (leb 128 j || ltb j 16)) (sym (e ∙ ap (bit_xor k) g)) (at_each (λ k. leb 128 (bit_xor k 128) || ltb (bit_xor k 128) 16) 16 tt k h)
]

pub are_places : (k : ℕ) (marks : List ℕ) → length marks ≡ 16 → k < 16 → AreMarks marks → SwzOk w8 16 16 0 (zip2 bit_xor (replicate 16 k) marks)
are_places k marks long h are =
    let places = zip2 bit_xor (replicate 16 k) marks in
    let many : length places ≡ 16 = long_of_two bit_xor (replicate 16 k) marks 16 (length-replicate 16 k) long in
    SwzOk-from_Each1 w8 16 1 16 0 places refl (omega (arith, many)) (Each1-from_get_or (λ j. T (leb 128 j || ltb j 16)) places 0 (λ n l.
    let within : n < 16 = omega (arith, many) in
    is_place k (get_or marks n 0) (get_or places n 0) h (are n within) (place_is k marks n long within)))

taken_is : (v : List ℕ) (k m j : ℕ) → k < 16 → (m ≡ 0) ⊎ (m ≡ 128) → j ≡ bit_xor k m → cond (leb 128 j) 0 (get_or v j 0) ≡ marked m (get_or v k 0)
taken_is v k m j h mark e = elim mark [
  | inl z ↦
      let is : j ≡ k = e ∙ ap (bit_xor k) z ∙ xor_zero_r k in
      rw (is, z, lt-leb 128 k (omega arith)) refl
  | inr g ↦
      let is : j ≡ k + 128 = e ∙ ap (bit_xor k) g ∙ far k h in
      rw (is, g, le-leb 128 (k + 128) (omega arith)) refl
]

pub picked_lane : (v marks : List ℕ) (k n : ℕ) → length marks ≡ 16 → k < 16 → AreMarks marks → n < 16
    → get_or (swz_l w8 16 v 0 (zip2 bit_xor (replicate 16 k) marks)) n 0 ≡ marked (get_or marks n 0) (get_or v k 0)
picked_lane v marks k n long h are within =
    let places = zip2 bit_xor (replicate 16 k) marks in
    let j = get_or places n 0 in
    let many : length places ≡ 16 = long_of_two bit_xor (replicate 16 k) marks 16 (length-replicate 16 k) long in
    let e : 16 * ((0 + n) / 16) + j ≡ j = omega arith in
    get_or-swz_l w8 16 v 0 places n (omega (arith, many)) ∙ ap (λ i. cond (leb 128 j) 0 (get_or v i 0)) e
    ∙ taken_is v k (get_or marks n 0) j h (are n within) (place_is k marks n long within)

pub picked_long : (v marks : List ℕ) (k : ℕ) → length marks ≡ 16 → length (swz_l w8 16 v 0 (zip2 bit_xor (replicate 16 k) marks)) ≡ 16
picked_long v marks k long =
    length-swz_l w8 16 v 0 (zip2 bit_xor (replicate 16 k) marks) ∙ long_of_two bit_xor (replicate 16 k) marks 16 (length-replicate 16 k) long

-- ---- four bytes

marked_as : (b m v : ℕ) → b < 2 → m ≡ 128 * (1 - b) → marked m v ≡ add_if b 0 v
marked_as zero m v h e = rw e refl
marked_as (suc zero) m v h e = rw e (sym (xor_zero_l v))
marked_as (suc (suc b)) m v h e = absurd (omega arith)

marked_added : (b m z v : ℕ) → b < 2 → m ≡ 128 * (1 - b) → bit_xor z (marked m v) ≡ add_if b z v
marked_added zero m z v h e = rw e (xor_zero_r z)
marked_added (suc zero) m z v h e = rw e refl
marked_added (suc (suc b)) m z v h e = absurd (omega arith)

pub chosen_is : (y a b c p q r s n : ℕ) → n < 16 → p ≡ marked (get_or WITHOUT_EIGHT n 0) y → q ≡ marked (get_or WITHOUT_FOUR n 0) a → r ≡ marked (get_or WITHOUT_TWO n 0) b → s ≡ marked (get_or WITHOUT_ONE n 0) c
    → bit_xor (bit_xor (bit_xor p q) r) s ≡ chosen y a b c n
unfolding chosen
chosen_is y a b c p q r s n h ep eq er es =
    let i = n / 8 % 2 in
    let j = n / 4 % 2 in
    let k = n / 2 % 2 in
    let l = n % 2 in
    let mi = same_below (λ n. get_or WITHOUT_EIGHT n 0) (λ n. 128 * (1 - n / 8 % 2)) 16 tt n h in
    let mj = same_below (λ n. get_or WITHOUT_FOUR n 0) (λ n. 128 * (1 - n / 4 % 2)) 16 tt n h in
    let mk = same_below (λ n. get_or WITHOUT_TWO n 0) (λ n. 128 * (1 - n / 2 % 2)) 16 tt n h in
    let ml = same_below (λ n. get_or WITHOUT_ONE n 0) (λ n. 128 * (1 - n % 2)) 16 tt n h in
    let first : p ≡ add_if i 0 y = ep ∙ marked_as i _ y (omega arith) mi in
    let second : bit_xor p q ≡ add_if j (add_if i 0 y) a = ap (bit_xor p) eq ∙ ap (λ z. bit_xor z (marked (get_or WITHOUT_FOUR n 0) a)) first ∙ marked_added j _ (add_if i 0 y) a (omega arith) mj in
    let third : bit_xor (bit_xor p q) r ≡ add_if k (add_if j (add_if i 0 y) a) b = ap (bit_xor (bit_xor p q)) er ∙ ap (λ z. bit_xor z (marked (get_or WITHOUT_TWO n 0) b)) second ∙ marked_added k _ (add_if j (add_if i 0 y) a) b (omega arith) mk in
    ap (bit_xor (bit_xor (bit_xor p q) r)) es ∙ ap (λ z. bit_xor z (marked (get_or WITHOUT_ONE n 0) c)) third ∙ marked_added l _ (add_if k (add_if j (add_if i 0 y) a) b) c (omega arith) ml

-- the marks are marks
mark_of : (b m : ℕ) → b < 2 → m ≡ 128 * (1 - b) → (m ≡ 0) ⊎ (m ≡ 128)
mark_of zero m h e = inr e
mark_of (suc zero) m h e = inl e
mark_of (suc (suc b)) m h e = absurd (omega arith)

pub eight_marks : AreMarks WITHOUT_EIGHT
eight_marks n h = mark_of (n / 8 % 2) _ (omega arith) (same_below (λ n. get_or WITHOUT_EIGHT n 0) (λ n. 128 * (1 - n / 8 % 2)) 16 tt n h)

pub four_marks : AreMarks WITHOUT_FOUR
four_marks n h = mark_of (n / 4 % 2) _ (omega arith) (same_below (λ n. get_or WITHOUT_FOUR n 0) (λ n. 128 * (1 - n / 4 % 2)) 16 tt n h)

pub two_marks : AreMarks WITHOUT_TWO
two_marks n h = mark_of (n / 2 % 2) _ (omega arith) (same_below (λ n. get_or WITHOUT_TWO n 0) (λ n. 128 * (1 - n / 2 % 2)) 16 tt n h)

pub one_marks : AreMarks WITHOUT_ONE
one_marks n h = mark_of (n % 2) _ (omega arith) (same_below (λ n. get_or WITHOUT_ONE n 0) (λ n. 128 * (1 - n % 2)) 16 tt n h)
