-- What the lanes of vectors have: of 32 bytes, and of two or four words.
use Rattle.std.proofs.Common.{◌≡◌, ℕ, zero, suc, List, ◌+◌, ◌*◌, ◌/◌, ◌%◌, ◌^◌, ◌<◌, ◌≤◌, ◌++◌, Fits, length, map, replicate, get_or, bit_and, bit_xor, w8, refl, sym, ap, ◌∙◌, arith}
use Rattle.std.specs.Int.Bits.{xor_assoc, xor_shifted, xor_zero_l, xor_zero_r}
use Rattle.std.specs.List.{range_with_len}
use Rattle.std.specs.Simd.Lanes.{Each1, chunk, digits_l, number_l, zip2}
use Rattle.std.proofs.lemmas.Grind.{same_number_lists}
use Rattle.std.proofs.lemmas.List.{get_or-append-add, get_or-map, get_or_append_left}
use Rattle.std.proofs.lemmas.List.FromFn.{get_or-map-range_with_len}
use Rattle.std.proofs.lemmas.Nat.{and_mask, xor_block, xor_comm, xor_lt, xor_mod, xor_shr}
use Rattle.std.proofs.lemmas.Simd.{below_from_Fits, Each1-chunk, get_or-chunk, get_or-swz_l_below, get_or-zip2, get_or_wider, length-chunk, length-replicate, length-swz_l, length-zip2, swz_l, zip2_splat}
use Rattle.ghash_core.specs.Tables.{block_byte, byte_times, folded, half_lanes, IsPlane, word}
use Rattle.ghash_core.specs.declared.planes.Plane.{Plane}
use Rattle.ghash_core.proofs.Linear.{xor_pairs}
use Rattle.ghash_core.proofs.Products.{entries_added}

-- ---- an operator on two vectors, and on one and a number

pub lane_of_two : (f : ℕ → ℕ → ℕ) (x y : List ℕ) (n i : ℕ) → length x ≡ n → length y ≡ n → i < n → get_or (zip2 f x y) i 0 ≡ f (get_or x i 0) (get_or y i 0)
lane_of_two f x y n i h l within = get_or-zip2 f x y i 0 0 0 (omega arith) (omega arith)

pub lane_of_one : (f : ℕ → ℕ → ℕ) (x : List ℕ) (n i s : ℕ) → length x ≡ n → i < n → get_or (zip2 f x (replicate n s)) i 0 ≡ f (get_or x i 0) s
lane_of_one f x n i s long within =
    ap (λ l. get_or l i 0) (zip2_splat f x n s long) ∙ get_or-map (λ a. f a s) x i 0 0 (omega arith)

pub long_of_two : (f : ℕ → ℕ → ℕ) (x y : List ℕ) (n : ℕ) → length x ≡ n → length y ≡ n → length (zip2 f x y) ≡ n
long_of_two f x y n h l = length-zip2 f x y (h ∙ sym l) ∙ h

long_of_one : (f : ℕ → ℕ → ℕ) (x : List ℕ) (n s : ℕ) → length x ≡ n → length (zip2 f x (replicate n s)) ≡ n
long_of_one f x n s h = long_of_two f x (replicate n s) n h (length-replicate n s)

-- ---- a table of bytes

-- a lane of the table's half
pub looked_lane : (table v : List ℕ) (t i : ℕ) → length v ≡ 32 → t < 2 → i < 16
    → get_or (swz_l w8 16 table 0 (zip2 bit_and v (replicate 32 15))) (16 * t + i) 0 ≡ get_or table (16 * t + get_or v (16 * t + i) 0 % 16) 0
looked_lane table v t i long half within =
    let at = zip2 bit_and v (replicate 32 15) in
    let m = 16 * t + i in
    let is : get_or at m 0 ≡ get_or v m 0 % 16 = lane_of_one bit_and v 32 m 15 long (omega arith) ∙ and_mask (get_or v m 0) 4 in
    let far = long_of_one bit_and v 32 15 long in
    let e : 16 * ((0 + m) / 16) + get_or at m 0 ≡ 16 * t + get_or at m 0 = omega arith in
    get_or-swz_l_below w8 16 table 0 at m (omega (arith, far)) (omega (arith, is)) ∙ ap (λ k. get_or table k 0) (e ∙ ap (λ n. 16 * t + n) is)

pub looked_long : (table v : List ℕ) → length v ≡ 32 → length (swz_l w8 16 table 0 (zip2 bit_and v (replicate 32 15))) ≡ 32
looked_long table v long =
    length-swz_l w8 16 table 0 (zip2 bit_and v (replicate 32 15)) ∙ long_of_one bit_and v 32 15 long

-- what the two look-ups of `added` give
pub added_lane : (h k t i : ℕ) (plane : Plane) (x r s : List ℕ) → IsPlane plane h k → t < 2 → i < 16 → length x ≡ 32 → length r ≡ 32 → length s ≡ 32 → get_or x (16 * t + i) 0 < 256
    → get_or r (16 * t + i) 0 ≡ get_or plane.upper (16 * t + get_or (zip2 (λ x s. x / 2 ^ s) x (replicate 32 4)) (16 * t + i) 0 % 16) 0
    → get_or s (16 * t + i) 0 ≡ get_or plane.lower (16 * t + get_or x (16 * t + i) 0 % 16) 0
    → get_or (zip2 bit_xor r s) (16 * t + i) 0 ≡ block_byte (byte_times h (get_or x (16 * t + i) 0)) (8 * t + k)
added_lane h k t i plane x r s is half within long lr ls small er es =
    let m = 16 * t + i in
    let b = get_or x m 0 in
    let down : get_or (zip2 (λ x s. x / 2 ^ s) x (replicate 32 4)) m 0 ≡ get_or x m 0 / 16 = lane_of_one (λ x s. x / 2 ^ s) x 32 m 4 long (omega arith) in
    let up : get_or (zip2 (λ x s. x / 2 ^ s) x (replicate 32 4)) m 0 % 16 ≡ b / 16 = omega (arith, down) in
    let first : get_or r m 0 ≡ _ = er ∙ ap (λ j. get_or plane.upper (16 * t + j) 0) up ∙ (is t (b / 16) half (omega arith)).0 in
    let second : get_or s m 0 ≡ _ = es ∙ (is t (b % 16) half (omega arith)).1 in
    lane_of_two bit_xor r s 32 m lr ls (omega arith) ∙ ap (λ n. bit_xor n (get_or s m 0)) first ∙ ap (bit_xor _) second ∙ entries_added h b (8 * t + k)

-- ---- halves

-- a lane of either half
pub either_half : (v : List ℕ) (g : ℕ → ℕ → ℕ) → ((i : ℕ) → i < 16 → get_or v i 0 ≡ g 0 i) → ((i : ℕ) → i < 16 → get_or v (16 + i) 0 ≡ g 1 i)
    → (t i : ℕ) → t < 2 → i < 16 → get_or v (16 * t + i) 0 ≡ g t i
either_half v g low high zero i half within = let e : 16 * 0 + i ≡ i = omega arith in ap (λ k. get_or v k 0) e ∙ low i within
either_half v g low high (suc zero) i half within = high i within
either_half v g low high (suc (suc t)) i half within = absurd (omega arith)

pub lane_joined : (a b : List ℕ) → length a ≡ 16 → (j : ℕ) → j < 16 → get_or (map (λ k. get_or (a ++ b) k 0) (range_with_len 0 32)) j 0 ≡ get_or a j 0
lane_joined a b long j h =
    get_or-map-range_with_len (λ k. get_or (a ++ b) k 0) 0 32 j j 0 (omega arith) (omega arith)
    ∙ get_or_append_left a b 0 j (omega arith)

pub lane_joined_high : (a b : List ℕ) → length a ≡ 16 → (j : ℕ) → j < 16 → get_or (map (λ k. get_or (a ++ b) k 0) (range_with_len 0 32)) (16 + j) 0 ≡ get_or b j 0
lane_joined_high a b long j h =
    let m : length a + j ≡ 16 + j = omega arith in
    get_or-map-range_with_len (λ k. get_or (a ++ b) k 0) 0 32 (16 + j) (16 + j) 0 (omega arith) (omega arith)
    ∙ ap (λ k. get_or (a ++ b) k 0) (sym m) ∙ get_or-append-add a b j 0

-- two of four lanes
pub lane_cut : (v : List ℕ) → length v ≡ 4 → (n j : ℕ) → n ≤ 2 → j < 2 → get_or (map (λ k. get_or (v ++ v) k 0) (range_with_len n 2)) j 0 ≡ get_or v (n + j) 0
lane_cut v long n j l h =
    get_or-map-range_with_len (λ k. get_or (v ++ v) k 0) n 2 j (n + j) 0 h refl
    ∙ get_or_append_left v v 0 (n + j) (omega arith)

-- a lane of a half, and how many it has
pub lane_of_half : (v : List ℕ) (t j : ℕ) → j < 16 → get_or (half_lanes v t) j 0 ≡ get_or v (16 * t + j) 0
lane_of_half v t j h = get_or-chunk (16 * t) 16 v j 0 h

pub half_long : (v : List ℕ) (t : ℕ) → length v ≡ 32 → t < 2 → length (half_lanes v t) ≡ 16
half_long v t long half = length-chunk (16 * t) 16 v (omega arith)

-- ---- words

-- a number of 128 bits a byte further, and a word added on top
pub pair_moved : (h l h' l' w : ℕ) → h < 2 ^ 64 → l < 2 ^ 64 → h' ≡ bit_xor (h / 2 ^ 8) w → l' ≡ bit_xor (l / 2 ^ 8) (h * 2 ^ 56 % 2 ^ 64) → h' * 2 ^ 64 + l' ≡ bit_xor ((h * 2 ^ 64 + l) / 2 ^ 8) (w * 2 ^ 64)
pair_moved h l h' l' w sh sl eh el =
    let q = h / 2 ^ 8 in
    let r = h % 2 ^ 8 in
    let t = r * 2 ^ 56 + l / 2 ^ 8 in
    let falls : h * 2 ^ 56 % 2 ^ 64 ≡ r * 2 ^ 56 = omega arith in
    let low : l / 2 ^ 8 < 2 ^ 56 = omega arith in
    let small : r * 2 ^ 56 + l / 2 ^ 8 < 2 ^ 64 = omega arith in
    let joined : l' ≡ t = el ∙ ap (bit_xor (l / 2 ^ 8)) falls ∙ xor_comm (l / 2 ^ 8) (r * 2 ^ 56) ∙ xor_shifted r 56 (l / 2 ^ 8) low in
    let further : (h * 2 ^ 64 + l) / 2 ^ 8 ≡ q * 2 ^ 64 + t = omega arith in
    let none : w * 2 ^ 64 ≡ w * 2 ^ 64 + 0 = omega arith in
    let block = xor_block 64 q w t 0 small (omega arith) in
    rw (eh, joined) (sym (ap (λ n. bit_xor n (w * 2 ^ 64)) further ∙ ap (bit_xor (q * 2 ^ 64 + t)) none ∙ block ∙ ap (λ n. bit_xor q w * 2 ^ 64 + n) (xor_zero_r t)))

pub lower_lane : (high low : List ℕ) (i : ℕ) → length high ≡ 4 → length low ≡ 4 → i < 4 → get_or (zip2 bit_xor (zip2 (λ x s. x / 2 ^ s) low (replicate 4 8)) (zip2 (λ x s. x * 2 ^ s % 2 ^ 64) high (replicate 4 56))) i 0 ≡ bit_xor (get_or low i 0 / 2 ^ 8) (get_or high i 0 * 2 ^ 56 % 2 ^ 64)
lower_lane high low i lh ll within =
    let down = λ (x s : ℕ). x / 2 ^ s in
    let up = λ (x s : ℕ). x * 2 ^ s % 2 ^ 64 in
    lane_of_two bit_xor (zip2 down low (replicate 4 8)) (zip2 up high (replicate 4 56)) 4 i (long_of_one down low 4 8 ll) (long_of_one up high 4 56 lh) within ∙ ap (λ n. bit_xor n (get_or (zip2 up high (replicate 4 56)) i 0)) (lane_of_one down low 4 i 8 ll within) ∙ ap (bit_xor (get_or low i 0 / 2 ^ 8)) (lane_of_one up high 4 i 56 lh within)

word_lane : (n i : ℕ) → i < 2 → get_or (digits_l (2 ^ 64) 2 n) i 0 ≡ word n i
word_lane n zero within = refl
word_lane n (suc zero) within = refl
word_lane n (suc (suc i)) within = absurd (omega arith)

-- the words of a half are two of the whole
words_of_half : (plane : List ℕ) (t l : ℕ) → length plane ≡ 32 → Each1 (Fits w8) plane → t < 2 → l < 2
    → get_or (digits_l (2 ^ 64) 4 (number_l 256 plane)) (2 * t + l) 0 ≡ word (number_l 256 (half_lanes plane t)) l
words_of_half plane t l long fits half within =
    let m = 2 * t + l in
    let part = half_lanes plane t in
    let small : Each1 (λ x. x < 256) plane = below_from_Fits w8 plane fits in
    let long_part = half_long plane t long half in
    let whole_long : length (chunk (8 * m) 8 plane) ≡ 8 = length-chunk (8 * m) 8 plane (omega arith) in
    let part_long : length (chunk (8 * l) 8 part) ≡ 8 = length-chunk (8 * l) 8 part (omega (arith, long_part)) in
    let same : chunk (8 * m) 8 plane ≡ chunk (8 * l) 8 part =
    same_number_lists (chunk (8 * m) 8 plane) (chunk (8 * l) 8 part) (whole_long ∙ sym part_long) (λ k h.
    let few : k < 8 = omega (arith, whole_long) in
    let e : 8 * m + k ≡ 16 * t + (8 * l + k) = omega arith in
    get_or-chunk (8 * m) 8 plane k 0 few ∙ ap (λ i. get_or plane i 0) e
    ∙ sym (get_or-chunk (8 * l) 8 part k 0 few ∙ lane_of_half plane t (8 * l + k) (omega arith))) in
    get_or_wider 256 8 (2 ^ 64) 4 plane m refl small (omega arith) ∙ ap (number_l 256) same
    ∙ sym (get_or_wider 256 8 (2 ^ 64) 2 part l refl (Each1-chunk (λ x. x < 256) (16 * t) 16 plane small) within)
    ∙ word_lane (number_l 256 part) l within

pub upper_lane : (high plane : List ℕ) (t l : ℕ) → length high ≡ 4 → length plane ≡ 32 → Each1 (Fits w8) plane → t < 2 → l < 2
    → get_or (zip2 bit_xor (zip2 (λ x s. x / 2 ^ s) high (replicate 4 8)) (digits_l (2 ^ 64) 4 (number_l 256 plane))) (2 * t + l) 0
    ≡ bit_xor (get_or high (2 * t + l) 0 / 2 ^ 8) (word (number_l 256 (half_lanes plane t)) l)
upper_lane high plane t l lh lp fits half within =
    let m = 2 * t + l in
    let down = λ (x s : ℕ). x / 2 ^ s in
    let words = digits_l (2 ^ 64) 4 (number_l 256 plane) in
    lane_of_two bit_xor (zip2 down high (replicate 4 8)) words 4 m (long_of_one down high 4 8 lh) refl (omega arith)
    ∙ ap (λ n. bit_xor n (get_or words m 0)) (lane_of_one down high 4 m 8 lh (omega arith)) ∙ ap (bit_xor (get_or high m 0 / 2 ^ 8)) (words_of_half plane t l lp fits half within)

-- ---- 256 bits of four pairs of words

above_regrouped : (a b c d : ℕ) → bit_xor a (bit_xor b (bit_xor c d)) ≡ bit_xor (bit_xor c b) (bit_xor a d)
above_regrouped a b c d =
    ap (bit_xor a) (sym (xor_assoc b c d) ∙ ap (λ n. bit_xor n d) (xor_comm b c)) ∙ sym (xor_assoc a (bit_xor c b) d) ∙ ap (λ n. bit_xor n d) (xor_comm a (bit_xor c b)) ∙ xor_assoc (bit_xor c b) a d

below_regrouped : (a b c d : ℕ) → bit_xor (bit_xor (bit_xor a b) c) d ≡ bit_xor (bit_xor c b) (bit_xor a d)
below_regrouped a b c d =
    ap (λ n. bit_xor n d) (xor_comm (bit_xor a b) c ∙ sym (xor_assoc c a b)) ∙ xor_assoc (bit_xor c a) b d ∙ sym (xor_pairs c b a d)

-- the upper and the lower 128 bits
above_is : (ah1 al1 bh0 bl0 bh1 bl1 a0 m : ℕ) → a0 < 2 ^ 128 → al1 < 2 ^ 64 → bl0 < 2 ^ 64 → bh0 < 2 ^ 64 → bl1 < 2 ^ 64 → m ≡ bit_xor ah1 bl1
    → bit_xor (bit_xor a0 ((ah1 * 2 ^ 64 + al1) * 2 ^ 64)) (bit_xor ((bh0 * 2 ^ 64 + bl0) * 2 ^ 64) ((bh1 * 2 ^ 64 + bl1) * 2 ^ 128)) / 2 ^ 128 ≡ bit_xor (bh1 * 2 ^ 64 + bh0) m
above_is ah1 al1 bh0 bl0 bh1 bl1 a0 m sa sal sbl0 sbh sbl1 em =
    let p = (ah1 * 2 ^ 64 + al1) * 2 ^ 64 in
    let q = (bh0 * 2 ^ 64 + bl0) * 2 ^ 64 in
    let r = (bh1 * 2 ^ 64 + bl1) * 2 ^ 128 in
    let e0 : a0 / 2 ^ 128 ≡ 0 = omega arith in
    let e1 : p / 2 ^ 128 ≡ ah1 = omega arith in
    let e2 : q / 2 ^ 128 ≡ bh0 = omega arith in
    let e3 : r / 2 ^ 128 ≡ bh1 * 2 ^ 64 + bl1 = omega arith in
    xor_shr (bit_xor a0 p) (bit_xor q r) 128 ∙ ap (λ n. bit_xor n (bit_xor q r / 2 ^ 128)) (xor_shr a0 p 128 ∙ ap (λ n. bit_xor n (p / 2 ^ 128)) e0 ∙ xor_zero_l (p / 2 ^ 128) ∙ e1) ∙ ap (bit_xor ah1) (xor_shr q r 128 ∙ ap (λ n. bit_xor n (r / 2 ^ 128)) e2 ∙ ap (bit_xor bh0) (e3 ∙ sym (xor_shifted bh1 64 bl1 sbl1))) ∙ above_regrouped ah1 bh0 (bh1 * 2 ^ 64) bl1 ∙ ap (bit_xor (bit_xor (bh1 * 2 ^ 64) bh0)) (sym em) ∙ ap (λ n. bit_xor n m) (xor_shifted bh1 64 bh0 sbh)

below_is : (ah0 al0 ah1 al1 bh0 bl0 b1 m : ℕ) → ah0 < 2 ^ 64 → al0 < 2 ^ 64 → al1 < 2 ^ 64 → bl0 < 2 ^ 64 → m ≡ bit_xor ah0 bl0 * 2 ^ 64
    → bit_xor (bit_xor (ah0 * 2 ^ 64 + al0) ((ah1 * 2 ^ 64 + al1) * 2 ^ 64)) (bit_xor ((bh0 * 2 ^ 64 + bl0) * 2 ^ 64) (b1 * 2 ^ 128)) % 2 ^ 128 ≡ bit_xor (al1 * 2 ^ 64 + al0) m
below_is ah0 al0 ah1 al1 bh0 bl0 b1 m sah0 sal0 sal1 sbl0 em =
    let o = ah0 * 2 ^ 64 + al0 in
    let p = (ah1 * 2 ^ 64 + al1) * 2 ^ 64 in
    let q = (bh0 * 2 ^ 64 + bl0) * 2 ^ 64 in
    let r = b1 * 2 ^ 128 in
    let e0 : o % 2 ^ 128 ≡ ah0 * 2 ^ 64 + al0 = omega arith in
    let e1 : p % 2 ^ 128 ≡ al1 * 2 ^ 64 = omega arith in
    let e2 : q % 2 ^ 128 ≡ bl0 * 2 ^ 64 = omega arith in
    let e3 : r % 2 ^ 128 ≡ 0 = omega arith in
    let moved : bit_xor (ah0 * 2 ^ 64) (bl0 * 2 ^ 64) ≡ m =
    let l : ah0 * 2 ^ 64 + 0 ≡ ah0 * 2 ^ 64 = omega arith in
    let n : bl0 * 2 ^ 64 + 0 ≡ bl0 * 2 ^ 64 = omega arith in
    let t : bit_xor ah0 bl0 * 2 ^ 64 + 0 ≡ bit_xor ah0 bl0 * 2 ^ 64 = omega arith in
    ap (λ s. bit_xor s (bl0 * 2 ^ 64)) (sym l) ∙ ap (bit_xor (ah0 * 2 ^ 64 + 0)) (sym n) ∙ xor_block 64 ah0 bl0 0 0 (omega arith) (omega arith) ∙ t ∙ sym em in
    xor_mod (bit_xor o p) (bit_xor q r) 128 ∙ ap (λ n. bit_xor n (bit_xor q r % 2 ^ 128)) (xor_mod o p 128 ∙ ap (λ n. bit_xor n (p % 2 ^ 128)) (e0 ∙ sym (xor_shifted ah0 64 al0 sal0)) ∙ ap (bit_xor (bit_xor (ah0 * 2 ^ 64) al0)) e1) ∙ ap (bit_xor (bit_xor (bit_xor (ah0 * 2 ^ 64) al0) (al1 * 2 ^ 64))) (xor_mod q r 128 ∙ ap (λ n. bit_xor n (r % 2 ^ 128)) e2 ∙ ap (bit_xor (bl0 * 2 ^ 64)) e3 ∙ xor_zero_r (bl0 * 2 ^ 64)) ∙ below_regrouped (ah0 * 2 ^ 64) al0 (al1 * 2 ^ 64) (bl0 * 2 ^ 64) ∙ ap (bit_xor (bit_xor (al1 * 2 ^ 64) al0)) moved ∙ ap (λ n. bit_xor n m) (xor_shifted al1 64 al0 sal0)

-- what `folded` computes, of the upper and the lower half that these are
pub folded_of : (w u l r : ℕ) → w / 2 ^ 128 ≡ u → w % 2 ^ 128 ≡ l → r ≡ bit_xor (bit_xor (bit_xor (bit_xor u l) (l / 2)) (l / 4)) (l / 128) → r ≡ folded w
unfolding folded
folded_of w u l r eu el is = is ∙ rw (eu, el) refl

pub words_folded : (ah0 al0 ah1 al1 bh0 bl0 bh1 bl1 m u l r : ℕ)
    → ah0 < 2 ^ 64 → al0 < 2 ^ 64 → al1 < 2 ^ 64 → bh0 < 2 ^ 64 → bl0 < 2 ^ 64 → bl1 < 2 ^ 64
    → m ≡ bit_xor ah1 bl1 * 2 ^ 64 + bit_xor ah0 bl0
    → u ≡ bit_xor (bh1 * 2 ^ 64 + bh0) (m / 2 ^ 64)
    → l ≡ bit_xor (al1 * 2 ^ 64 + al0) (m * 2 ^ 64 % 2 ^ 128)
    → r ≡ bit_xor (bit_xor (bit_xor (bit_xor u l) (l / 2)) (l / 4)) (l / 128)
    → r ≡ folded (bit_xor (bit_xor (ah0 * 2 ^ 64 + al0) ((ah1 * 2 ^ 64 + al1) * 2 ^ 64)) (bit_xor ((bh0 * 2 ^ 64 + bl0) * 2 ^ 64) ((bh1 * 2 ^ 64 + bl1) * 2 ^ 128)))
words_folded ah0 al0 ah1 al1 bh0 bl0 bh1 bl1 m u l r sah0 sal0 sal1 sbh0 sbl0 sbl1 em eu el er =
    let small : bit_xor ah0 bl0 < 2 ^ 64 = xor_lt 64 ah0 bl0 sah0 sbl0 in
    let high : m / 2 ^ 64 ≡ bit_xor ah1 bl1 = omega arith in
    let low : m * 2 ^ 64 % 2 ^ 128 ≡ bit_xor ah0 bl0 * 2 ^ 64 = omega arith in
    let a0 : ah0 * 2 ^ 64 + al0 < 2 ^ 128 = omega arith in
    folded_of _ u l r (above_is ah1 al1 bh0 bl0 bh1 bl1 (ah0 * 2 ^ 64 + al0) (m / 2 ^ 64) a0 sal1 sbl0 sbh0 sbl1 high ∙ sym eu) (below_is ah0 al0 ah1 al1 bh0 bl0 (bh1 * 2 ^ 64 + bl1) (m * 2 ^ 64 % 2 ^ 128) sah0 sal0 sal1 sbl0 low ∙ sym el) er
