-- The lanes of vectors of bytes, where they are moved and where their bits are. A vector has `count` lanes.
use Rattle.std.proofs.Common.{◌≡◌, ℕ, ◌+◌, ◌-◌, ◌*◌, ◌/◌, ◌%◌, ◌^◌, ◌<◌, ◌≤◌, cond, T, List, ◌++◌, length, map, replicate, get_or, bit_and, bit_xor, Fits, w8, refl, sym, ap, ◌∙◌, inl, inr, arith}
use Rattle.std.specs.Int.{bit_at}
use Rattle.std.specs.List.{range_with_len}
use Rattle.std.specs.Simd.Lanes.{zip2, Each1}
use Rattle.std.specs.Int.Bits.{and_zero_l}
use Rattle.std.proofs.Math.Nat.{zero-mul}
use Rattle.std.proofs.lemmas.Bool.{cases_lt}
use Rattle.std.proofs.lemmas.List.{get_or_past, get_or_append_left, get_or-map, length-map, length-replicate}
use Rattle.std.proofs.lemmas.List.FromFn.{get_or-map-range_with_len, length-map-range_with_len}
use Rattle.std.proofs.lemmas.Simd.{zip2_splat, length-zip2, Each1-get_or}
use Rattle.plane_core.specs.Places.{below, lane, shifted}
use Rattle.cipher_spec.proofs.Computed.{same_below}
use Rattle.plane_core.proofs.Gates.{lane_of}
use Rattle.plane_core.proofs.Wires.{keeps, moves, paired, is_even, raised, evens, odds, evens_self, odds_self, odds_other, linear_raised, linear_evens_self, linear_odds_self, linear_odds_other, evens_apart, odds_apart}

-- ---- lanes moved

pub lane_moved : (count : ℕ) (s : ℕ → ℕ) (v : List ℕ) → length v ≡ count → (j : ℕ) → j < count → s j < count
    → get_or (map (λ k. get_or (v ++ v) (s k) 0) (range_with_len 0 count)) j 0 ≡ get_or v (s j) 0
lane_moved count s v long j h l =
    get_or-map-range_with_len (λ k. get_or (v ++ v) (s k) 0) 0 count j j 0 h (omega arith)
    ∙ get_or_append_left v v 0 (s j) (omega arith)

-- a bit of lane j, to which lane i comes
pub bit_moved : (count : ℕ) (s : ℕ → ℕ) (v : List ℕ) → length v ≡ count → (j i b : ℕ) → j < count → s j ≡ i → i < count
    → bit_at (get_or (map (λ k. get_or (v ++ v) (s k) 0) (range_with_len 0 count)) j 0) b ≡ bit_at (get_or v i 0) b
bit_moved count s v long j i b h e l =
    let within : s j < count = omega arith in
    ap (λ n. bit_at n b) (lane_moved count s v long j h within ∙ ap (λ k. get_or v k 0) e)

-- lane k of the vector that row r of the state, c columns on, comes to
abbrev pub row_shifted : ℕ → ℕ
row_shifted k = k / 4 * 4 + (k % 4 + k / 4) % 4

abbrev pub rows_below : ℕ → ℕ → ℕ
rows_below n k = (k + 4 * n) % 16

pub lane_shifted : (j : ℕ) → j < 16 → row_shifted (lane j) ≡ lane (shifted j)
lane_shifted j h = same_below (λ j. row_shifted (lane j)) (λ j. lane (shifted j)) 16 tt j h

pub lane_below_1 : (j : ℕ) → j < 16 → rows_below 1 (lane j) ≡ lane (below 1 j)
lane_below_1 j h = same_below (λ j. rows_below 1 (lane j)) (λ j. lane (below 1 j)) 16 tt j h

pub lane_below_2 : (j : ℕ) → j < 16 → rows_below 2 (lane j) ≡ lane (below 2 j)
lane_below_2 j h = same_below (λ j. rows_below 2 (lane j)) (λ j. lane (below 2 j)) 16 tt j h

-- ---- rows exchanged

-- a function on each lane, which past the end reads as 0
mapped : (f : ℕ → ℕ) → f 0 ≡ 0 → (x : List ℕ) (j : ℕ) → get_or (map f x) j 0 ≡ f (get_or x j 0)
mapped f none x j = elim (cases_lt j (length x)) [
  | inl s ↦ get_or-map f x j 0 0 s
  | inr g ↦
      let e : length (map f x) ≤ j = omega (arith, length-map x f) in
      get_or_past (map f x) j 0 e ∙ sym none ∙ ap f (sym (get_or_past x j 0 g))
]

lane_below : (x : List ℕ) → Each1 (Fits w8) x → (j : ℕ) → get_or x j 0 < 256
lane_below x h j = elim (cases_lt j (length x)) [
  | inl s ↦ (Each1-get_or (Fits w8) x j 0 s h).fits
  | inr g ↦ rw (get_or_past x j 0 g) (omega arith)
]

pub lanes_picked : (count : ℕ) (s : ℕ → ℕ) (v : List ℕ) → length v ≡ count → Each1 (Fits w8) v → ((j : ℕ) → j < count → s j < count) → (j : ℕ)
    → get_or (map (λ k. get_or (v ++ v) (s k) 0) (range_with_len 0 count)) j 0 < 256
lanes_picked count s v long h within j = elim (cases_lt j count) [
  | inl l ↦ rw (lane_moved count s v long j l (within j l)) (lane_below v h (s j))
  | inr g ↦
      let e : length (map (λ k. get_or (v ++ v) (s k) 0) (range_with_len 0 count)) ≤ j = omega (arith, length-map-range_with_len (λ k. get_or (v ++ v) (s k) 0) 0 count) in
      rw (get_or_past (map (λ k. get_or (v ++ v) (s k) 0) (range_with_len 0 count)) j 0 e) (omega arith)
]

-- bit i of lane k
abbrev pub lane_cell : List ℕ → ℕ → ℕ → ℕ
lane_cell v k i = bit_at (get_or v k 0) i

-- an operator with the same number at each lane
each_lane : (count : ℕ) (f : ℕ → ℕ → ℕ) (n : ℕ) → f 0 n ≡ 0 → (x : List ℕ) → length x ≡ count → (k : ℕ) → get_or (zip2 f x (replicate count n)) k 0 ≡ f (get_or x k 0) n
each_lane count f n none x long k = ap (λ l. get_or l k 0) (zip2_splat f x count n long) ∙ mapped (λ a. f a n) none x k

none_up : (n : ℕ) → 0 * 2 ^ n % 256 ≡ 0
none_up n = ap (λ z. z % 256) (zero-mul (2 ^ n))

none_down : (n : ℕ) → 0 / 2 ^ n ≡ 0
none_down n = omega arith

-- the length of what an operator gives
long_as : {count : ℕ} → (f : ℕ → ℕ → ℕ) (x y : List ℕ) → length x ≡ count → length y ≡ count → length (zip2 f x y) ≡ count
long_as f x y h l = length-zip2 f x y (h ∙ sym l) ∙ h

splat_long : (count n : ℕ) → length (replicate count n) ≡ count
splat_long count n = length-replicate count n

-- where two vectors differ in the bits of a mask, once those of the first are moved n down
abbrev pub differing : ℕ → ℕ → ℕ → List ℕ → List ℕ → List ℕ
differing count n m a b = zip2 bit_and (zip2 bit_xor (zip2 (λ x s. x / 2 ^ s) a (replicate count n)) b) (replicate count m)

moved_long : (count n : ℕ) (a : List ℕ) → length a ≡ count → length (zip2 (λ x s. x / 2 ^ s) a (replicate count n)) ≡ count
moved_long count n a h = long_as (λ x s. x / 2 ^ s) a (replicate count n) h (splat_long count n)

sums_long : (count n : ℕ) (a b : List ℕ) → length a ≡ count → length b ≡ count → length (zip2 bit_xor (zip2 (λ x s. x / 2 ^ s) a (replicate count n)) b) ≡ count
sums_long count n a b h l = long_as bit_xor (zip2 (λ x s. x / 2 ^ s) a (replicate count n)) b (moved_long count n a h) l

differing_long : (count n m : ℕ) (a b : List ℕ) → length a ≡ count → length b ≡ count → length (differing count n m a b) ≡ count
differing_long count n m a b h l = long_as bit_and (zip2 bit_xor (zip2 (λ x s. x / 2 ^ s) a (replicate count n)) b) (replicate count m) (sums_long count n a b h l) (splat_long count m)

differing_lane : (count n m : ℕ) (a b : List ℕ) → length a ≡ count → length b ≡ count → (k : ℕ)
    → get_or (differing count n m a b) k 0 ≡ bit_and (bit_xor (get_or a k 0 / 2 ^ n) (get_or b k 0)) m
differing_lane count n m a b h l k =
    let moved = zip2 (λ x s. x / 2 ^ s) a (replicate count n) in
    each_lane count bit_and m (and_zero_l m) (zip2 bit_xor moved b) (sums_long count n a b h l) k
    ∙ ap (λ x. bit_and x m) (lane_of bit_xor refl moved b (moved_long count n a h) l k
    ∙ ap (λ x. bit_xor x (get_or b k 0)) (each_lane count (λ x s. x / 2 ^ s) n (none_down n) a h k))

evens_lane : (count n m : ℕ) (a b : List ℕ) → length a ≡ count → length b ≡ count → (k : ℕ)
    → get_or (zip2 bit_xor a (zip2 (λ x s. x * 2 ^ s % 256) (differing count n m a b) (replicate count n))) k 0 ≡ evens n m (get_or a k 0) (get_or b k 0)
evens_lane count n m a b h l k =
    let d = differing count n m a b in
    let long = differing_long count n m a b h l in
    lane_of bit_xor refl a (zip2 (λ x s. x * 2 ^ s % 256) d (replicate count n)) h (long_as (λ x s. x * 2 ^ s % 256) d (replicate count n) long (splat_long count n)) k
    ∙ ap (bit_xor (get_or a k 0)) (each_lane count (λ x s. x * 2 ^ s % 256) n (none_up n) d long k
    ∙ ap (λ x. x * 2 ^ n % 256) (differing_lane count n m a b h l k))

odds_lane : (count n m : ℕ) (a b : List ℕ) → length a ≡ count → length b ≡ count → (k : ℕ)
    → get_or (zip2 bit_xor b (differing count n m a b)) k 0 ≡ odds n m (get_or a k 0) (get_or b k 0)
odds_lane count n m a b h l k =
    lane_of bit_xor refl b (differing count n m a b) l (differing_long count n m a b h l) k
    ∙ ap (bit_xor (get_or b k 0)) (differing_lane count n m a b h l k)

pub lane_evens : (count n m : ℕ) → T (keeps (is_even n) (λ i. i) (evens_self n m)) → T (moves (is_even n) (λ i. i - n) (raised n m))
    → (a b : List ℕ) → length a ≡ count → length b ≡ count → Each1 (Fits w8) a → Each1 (Fits w8) b → (k i : ℕ) → i < 8
    → lane_cell (zip2 bit_xor a (zip2 (λ x s. x * 2 ^ s % 256) (differing count n m a b) (replicate count n))) k i ≡ cond (is_even n i) (lane_cell a k i) (lane_cell b k (i - n))
lane_evens count n m p q a b h l s t k i d =
    let x = get_or a k 0 in
    let y = get_or b k 0 in
    ap (λ w. bit_at w i) (evens_lane count n m a b h l k ∙ evens_apart n m x y)
    ∙ paired (is_even n) (λ i. i) (λ i. i - n) (evens_self n m) (raised n m) (linear_evens_self n m) (linear_raised n m) p q x y i (lane_below a s k) (lane_below b t k) d

pub lane_odds : (count n m : ℕ) → T (keeps (is_even n) (λ i. i + n) (odds_self n m)) → T (moves (is_even n) (λ i. i) (odds_other m))
    → (a b : List ℕ) → length a ≡ count → length b ≡ count → Each1 (Fits w8) a → Each1 (Fits w8) b → (k i : ℕ) → i < 8
    → lane_cell (zip2 bit_xor b (differing count n m a b)) k i ≡ cond (is_even n i) (lane_cell a k (i + n)) (lane_cell b k i)
lane_odds count n m p q a b h l s t k i d =
    let x = get_or a k 0 in
    let y = get_or b k 0 in
    ap (λ w. bit_at w i) (odds_lane count n m a b h l k ∙ odds_apart n m x y)
    ∙ paired (is_even n) (λ i. i + n) (λ i. i) (odds_self n m) (odds_other m) (linear_odds_self n m) (linear_odds_other m) p q x y i (lane_below a s k) (lane_below b t k) d
