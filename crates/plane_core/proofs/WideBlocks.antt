-- Sixteen blocks in vectors of 32 bytes.
use Rattle.std.proofs.Common.{◌≡◌, ℕ, zero, suc, ◌+◌, ◌-◌, ◌*◌, ◌/◌, ◌%◌, ◌<◌, List, [], ◌∷◌, length, get_or, refl, sym, ap, subst, ◌∙◌, inl, inr, arith}
use Rattle.std.specs.Int.{bit_at}
use Rattle.std.proofs.lemmas.Bool.{cases_lt}
use Rattle.std.proofs.lemmas.List.FromFn.{fill_by_all}
use Rattle.plane_core.specs.declared.planes.Planes.{Planes}
use Rattle.plane_core.specs.Bits.{byte_of, block, number_of}
use Rattle.plane_core.specs.Grid.{plane_word}
use Rattle.plane_core.specs.Places.{lane, lane_bit, wide_bit, wide_lane}
use Rattle.plane_core.proofs.Bytes.{same_image}
use Rattle.plane_core.proofs.States.{same_state}
use Rattle.plane_core.proofs.Blocks.{IsTransposed, byte_from_bits, each_of_eight}
use Rattle.plane_core.proofs.Lanes.{lane_cell}

-- ---- one by one

pub each_of_sixteen : (P : ℕ → Type 0) → P 0 → P 1 → P 2 → P 3 → P 4 → P 5 → P 6 → P 7 → P 8 → P 9 → P 10 → P 11 → P 12 → P 13 → P 14 → P 15 → (j : ℕ) → j < 16 → P j
each_of_sixteen P p0 p1 p2 p3 p4 p5 p6 p7 p8 p9 p10 p11 p12 p13 p14 p15 j h = elim (cases_lt j 8) [
  | inl l ↦ each_of_eight P p0 p1 p2 p3 p4 p5 p6 p7 j l
  | inr g ↦
      let e : 8 + (j - 8) ≡ j = omega arith in
      subst P e (each_of_eight (λ i. P (8 + i)) p8 p9 p10 p11 p12 p13 p14 p15 (j - 8) (omega arith))
]

pub sixteen_blocks : (a0 a1 a2 a3 a4 a5 a6 a7 a8 a9 a10 a11 a12 a13 a14 a15 b0 b1 b2 b3 b4 b5 b6 b7 b8 b9 b10 b11 b12 b13 b14 b15 : List ℕ) → a0 ≡ b0 → a1 ≡ b1 → a2 ≡ b2 → a3 ≡ b3 → a4 ≡ b4 → a5 ≡ b5 → a6 ≡ b6 → a7 ≡ b7 → a8 ≡ b8 → a9 ≡ b9 → a10 ≡ b10 → a11 ≡ b11 → a12 ≡ b12 → a13 ≡ b13 → a14 ≡ b14 → a15 ≡ b15
    → (a0 ∷ a1 ∷ a2 ∷ a3 ∷ a4 ∷ a5 ∷ a6 ∷ a7 ∷ a8 ∷ a9 ∷ a10 ∷ a11 ∷ a12 ∷ a13 ∷ a14 ∷ a15 ∷ []) ≡ (b0 ∷ b1 ∷ b2 ∷ b3 ∷ b4 ∷ b5 ∷ b6 ∷ b7 ∷ b8 ∷ b9 ∷ b10 ∷ b11 ∷ b12 ∷ b13 ∷ b14 ∷ b15 ∷ [])
sixteen_blocks a0 a1 a2 a3 a4 a5 a6 a7 a8 a9 a10 a11 a12 a13 a14 a15 b0 b1 b2 b3 b4 b5 b6 b7 b8 b9 b10 b11 b12 b13 b14 b15 e0 e1 e2 e3 e4 e5 e6 e7 e8 e9 e10 e11 e12 e13 e14 e15 = rw (e0, e1, e2, e3, e4, e5, e6, e7, e8, e9, e10, e11, e12, e13, e14, e15) refl

-- ---- sixteen blocks in vectors

-- block i of half h
pub of_wide_lanes : (p r : Planes (List ℕ)) → IsTransposed lane_cell p r → (h i : ℕ) → h < 2 → i < 8 → (x : List ℕ) → length x ≡ 16
    → ((j : ℕ) → get_or x j 0 < 256) → ((j : ℕ) → j < 16 → get_or (plane_word r i) (16 * h + lane j) 0 ≡ get_or x j 0) → block wide_bit p (8 * h + i) ≡ x
unfolding block
of_wide_lanes p r e h i u v x long bytes lanes =
    let b = 8 * h + i in
    same_state (λ j. byte_of wide_bit p (j % 4 + 4 * (j / 4)) b) (λ j. get_or x j 0) (λ j l.
    let k : j % 4 + 4 * (j / 4) ≡ j = omega arith in
    let m : wide_lane j b ≡ 16 * h + lane j = omega arith in
    let n : b % 8 ≡ i = omega arith in
    rw k (byte_from_bits wide_bit p j b (get_or x j 0) (bytes j) (λ q s.
    ap (λ k. bit_at (get_or (plane_word p q) k 0) (b % 8)) m ∙ ap (bit_at (get_or (plane_word p q) (16 * h + lane j) 0)) n
    ∙ e.cells q i (16 * h + lane j) s v ∙ ap (λ n. bit_at n q) (lanes j l))))
    ∙ sym (fill_by_all (λ j. get_or x j 0) x 16 0 long (λ k l. refl))

pub of_low_lanes : (p r : Planes (List ℕ)) → IsTransposed lane_cell p r → (i : ℕ) → i < 8 → (x : List ℕ) → length x ≡ 16
    → ((j : ℕ) → get_or x j 0 < 256) → ((j : ℕ) → j < 16 → get_or (plane_word r i) (lane j) 0 ≡ get_or x j 0) → block wide_bit p (8 * 0 + i) ≡ x
of_low_lanes p r e i v x long bytes lanes =
    of_wide_lanes p r e 0 i (omega arith) v x long bytes (λ j l.
    let k : 16 * 0 + lane j ≡ lane j = omega arith in
    ap (λ k. get_or (plane_word r i) k 0) k ∙ lanes j l)

-- ---- vectors put together of halves

-- a vector that has another one in both halves
pub bit_twice : (w v : List ℕ) → ((j : ℕ) → j < 16 → get_or w j 0 ≡ get_or v j 0) → ((j : ℕ) → j < 16 → get_or w (16 + j) 0 ≡ get_or v j 0)
    → (j b : ℕ) → j < 16 → wide_bit w j b ≡ lane_bit v j (b % 8)
bit_twice w v low high j b h = ap (λ n. bit_at n (b % 8)) (in_either (b % 16 / 8) (omega arith)) where
  in_either : (n : ℕ) → n < 2 → get_or w (16 * n + lane j) 0 ≡ get_or v (lane j) 0
  in_either zero l = let e : 16 * 0 + lane j ≡ lane j = omega arith in ap (λ k. get_or w k 0) e ∙ low (lane j) (omega arith)
  in_either (suc zero) l = high (lane j) (omega arith)
  in_either (suc (suc n)) l = absurd (omega arith)

-- a vector as the lower half of another, and as the upper half
pub bit_low : (w v : List ℕ) → ((j : ℕ) → j < 16 → get_or w j 0 ≡ get_or v j 0) → (j b : ℕ) → j < 16 → b < 8 → wide_bit w j b ≡ lane_bit v j b
bit_low w v low j b h l =
    let m : wide_lane j b ≡ lane j = omega arith in
    let n : b % 8 ≡ b = omega arith in
    ap (λ k. bit_at (get_or w k 0) (b % 8)) m ∙ ap (bit_at (get_or w (lane j) 0)) n ∙ ap (λ n. bit_at n b) (low (lane j) (omega arith))

pub bit_high : (w v : List ℕ) → ((j : ℕ) → j < 16 → get_or w (16 + j) 0 ≡ get_or v j 0) → (j b : ℕ) → j < 16 → b < 8 → wide_bit w j (8 + b) ≡ lane_bit v j b
bit_high w v high j b h l =
    let m : wide_lane j (8 + b) ≡ 16 + lane j = omega arith in
    let n : (8 + b) % 8 ≡ b = omega arith in
    ap (λ k. bit_at (get_or w k 0) ((8 + b) % 8)) m ∙ ap (bit_at (get_or w (16 + lane j) 0)) n ∙ ap (λ n. bit_at n b) (high (lane j) (omega arith))

-- a block of wide planes that is one of narrow planes
pub block_of_half : (p x : Planes (List ℕ)) (b d : ℕ) → ((q j : ℕ) → q < 8 → j < 16 → wide_bit (plane_word p q) j b ≡ lane_bit (plane_word x q) j d) → block wide_bit p b ≡ block lane_bit x d
unfolding block byte_of
block_of_half p x b d e =
    same_state (λ j. byte_of wide_bit p (j % 4 + 4 * (j / 4)) b) (λ j. byte_of lane_bit x (j % 4 + 4 * (j / 4)) d) (λ j l.
    let k = j % 4 + 4 * (j / 4) in
    let s : k < 16 = omega arith in
    same_image number_of _ _ _ _ _ _ _ _ _ _ _ _ _ _ _ _ (e 0 k (omega arith) s) (e 1 k (omega arith) s) (e 2 k (omega arith) s) (e 3 k (omega arith) s) (e 4 k (omega arith) s) (e 5 k (omega arith) s) (e 6 k (omega arith) s) (e 7 k (omega arith) s))
