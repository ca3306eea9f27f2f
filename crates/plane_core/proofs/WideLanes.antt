-- The lanes of vectors of 32 bytes: where each half of them is moved as 16 lanes are, and vectors that are put together of two
-- halves, and cut into them.
use Rattle.std.proofs.Common.{◌≡◌, ℕ, ◌+◌, ◌*◌, ◌/◌, ◌%◌, ◌<◌, ◌≤◌, List, ◌++◌, length, map, get_or, refl, sym, ap, ◌∙◌, arith}
use Rattle.std.specs.List.{range_with_len}
use Rattle.std.proofs.lemmas.List.{get_or_append_left, get_or-append-add}
use Rattle.std.proofs.lemmas.List.FromFn.{get_or-map-range_with_len}
use Rattle.plane_core.specs.Places.{below, lane, shifted, wide_lane}
use Rattle.plane_core.proofs.Lanes.{row_shifted, rows_below, lane_shifted, lane_below_1, lane_below_2}

-- ---- the same in each half

abbrev pub in_each_half : (ℕ → ℕ) → ℕ → ℕ
in_each_half f k = 16 * (k / 16) + f (k % 16)

in_half : (f : ℕ → ℕ) (n l : ℕ) → l < 16 → in_each_half f (16 * n + l) ≡ 16 * n + f l
in_half f n l h =
    let d : (16 * n + l) / 16 ≡ n = omega arith in
    let r : (16 * n + l) % 16 ≡ l = omega arith in
    rw (d, r) refl

pub wide_shifted : (j b : ℕ) → j < 16 → in_each_half row_shifted (wide_lane j b) ≡ wide_lane (shifted j) b
wide_shifted j b h = in_half row_shifted (b % 16 / 8) (lane j) (omega arith) ∙ ap (λ l. 16 * (b % 16 / 8) + l) (lane_shifted j h)

pub wide_below_1 : (j b : ℕ) → j < 16 → in_each_half (rows_below 1) (wide_lane j b) ≡ wide_lane (below 1 j) b
wide_below_1 j b h = in_half (rows_below 1) (b % 16 / 8) (lane j) (omega arith) ∙ ap (λ l. 16 * (b % 16 / 8) + l) (lane_below_1 j h)

pub wide_below_2 : (j b : ℕ) → j < 16 → in_each_half (rows_below 2) (wide_lane j b) ≡ wide_lane (below 2 j) b
wide_below_2 j b h = in_half (rows_below 2) (b % 16 / 8) (lane j) (omega arith) ∙ ap (λ l. 16 * (b % 16 / 8) + l) (lane_below_2 j h)

-- ---- halves

pub lane_joined : (a b : List ℕ) → length a ≡ 16 → (j : ℕ) → j < 16 → get_or (map (λ k. get_or (a ++ b) k 0) (range_with_len 0 32)) j 0 ≡ get_or a j 0
lane_joined a b long j h =
    get_or-map-range_with_len (λ k. get_or (a ++ b) k 0) 0 32 j j 0 (omega arith) (omega arith)
    ∙ get_or_append_left a b 0 j (omega arith)

pub lane_joined_high : (a b : List ℕ) → length a ≡ 16 → (j : ℕ) → j < 16 → get_or (map (λ k. get_or (a ++ b) k 0) (range_with_len 0 32)) (16 + j) 0 ≡ get_or b j 0
lane_joined_high a b long j h =
    let m : length a + j ≡ 16 + j = omega arith in
    get_or-map-range_with_len (λ k. get_or (a ++ b) k 0) 0 32 (16 + j) (16 + j) 0 (omega arith) (omega arith)
    ∙ ap (λ k. get_or (a ++ b) k 0) (sym m) ∙ get_or-append-add a b j 0

pub lane_cut : (v : List ℕ) → length v ≡ 32 → (n j : ℕ) → n ≤ 16 → j < 16 → get_or (map (λ k. get_or (v ++ v) k 0) (range_with_len n 16)) j 0 ≡ get_or v (n + j) 0
lane_cut v long n j l h =
    get_or-map-range_with_len (λ k. get_or (v ++ v) k 0) n 16 j (n + j) 0 h refl
    ∙ get_or_append_left v v 0 (n + j) (omega arith)
