-- Blocks in vectors and in planes: words of rows, and the same rows as columns.
use Rattle.std.proofs.Common.{◌≡◌, ℕ, zero, suc, ◌+◌, ◌*◌, ◌/◌, ◌%◌, ◌<◌, List, [], ◌∷◌, length, map, get_or, refl, sym, ap, ◌∙◌, arith}
use Rattle.std.specs.Int.{bit_at}
use Rattle.std.specs.List.{range_with_len}
use Rattle.std.proofs.lemmas.List.FromFn.{get_or-map-range_with_len, fill_by_all}
use Rattle.plane_core.specs.declared.planes.Planes.{Planes}
use Rattle.plane_core.specs.Bits.{number_of, byte_of, block}
use Rattle.plane_core.specs.Grid.{bit_row, plane_word}
use Rattle.plane_core.specs.Places.{lane, lane_bit}
use Rattle.plane_core.proofs.Bytes.{same_image, spread}
use Rattle.plane_core.proofs.States.{same_state}
use Rattle.plane_core.proofs.Lanes.{lane_cell}

-- ---- one by one

pub each_of_eight : (P : ℕ → Type 0) → P 0 → P 1 → P 2 → P 3 → P 4 → P 5 → P 6 → P 7 → (i : ℕ) → i < 8 → P i
each_of_eight P p0 p1 p2 p3 p4 p5 p6 p7 zero h = p0
each_of_eight P p0 p1 p2 p3 p4 p5 p6 p7 (suc zero) h = p1
each_of_eight P p0 p1 p2 p3 p4 p5 p6 p7 (suc (suc zero)) h = p2
each_of_eight P p0 p1 p2 p3 p4 p5 p6 p7 (suc (suc (suc zero))) h = p3
each_of_eight P p0 p1 p2 p3 p4 p5 p6 p7 (suc (suc (suc (suc zero)))) h = p4
each_of_eight P p0 p1 p2 p3 p4 p5 p6 p7 (suc (suc (suc (suc (suc zero))))) h = p5
each_of_eight P p0 p1 p2 p3 p4 p5 p6 p7 (suc (suc (suc (suc (suc (suc zero)))))) h = p6
each_of_eight P p0 p1 p2 p3 p4 p5 p6 p7 (suc (suc (suc (suc (suc (suc (suc zero))))))) h = p7
each_of_eight P p0 p1 p2 p3 p4 p5 p6 p7 (suc (suc (suc (suc (suc (suc (suc (suc i)))))))) h = absurd (omega arith)

pub each_of_four : (P : ℕ → Type 0) → P 0 → P 1 → P 2 → P 3 → (i : ℕ) → i < 4 → P i
each_of_four P p0 p1 p2 p3 zero h = p0
each_of_four P p0 p1 p2 p3 (suc zero) h = p1
each_of_four P p0 p1 p2 p3 (suc (suc zero)) h = p2
each_of_four P p0 p1 p2 p3 (suc (suc (suc zero))) h = p3
each_of_four P p0 p1 p2 p3 (suc (suc (suc (suc i)))) h = absurd (omega arith)

pub eight_blocks : (a0 a1 a2 a3 a4 a5 a6 a7 b0 b1 b2 b3 b4 b5 b6 b7 : List ℕ) → a0 ≡ b0 → a1 ≡ b1 → a2 ≡ b2 → a3 ≡ b3 → a4 ≡ b4 → a5 ≡ b5 → a6 ≡ b6 → a7 ≡ b7
    → (a0 ∷ a1 ∷ a2 ∷ a3 ∷ a4 ∷ a5 ∷ a6 ∷ a7 ∷ []) ≡ (b0 ∷ b1 ∷ b2 ∷ b3 ∷ b4 ∷ b5 ∷ b6 ∷ b7 ∷ [])
eight_blocks a0 a1 a2 a3 a4 a5 a6 a7 b0 b1 b2 b3 b4 b5 b6 b7 e0 e1 e2 e3 e4 e5 e6 e7 = rw (e0, e1, e2, e3, e4, e5, e6, e7) refl

-- ---- rows and columns

-- each bit of the words r stands in p with its place in the byte and its word exchanged
pub record IsTransposed {W : Type 0} (cell : W → ℕ → ℕ → ℕ) (p r : Planes W) : Type 0 where
  pub cells : (q i k : ℕ) → q < 8 → i < 8 → cell (plane_word p q) k i ≡ cell (plane_word r i) k q

row_bit : {W : Type 0} → (cell : W → ℕ → ℕ → ℕ) → (w : W) (k i : ℕ) → i < 8 → get_or (bit_row cell w k) i 0 ≡ cell w k i
unfolding bit_row
row_bit cell w k i h = get_or-map-range_with_len (cell w k) 0 8 i i 0 h (omega arith)

pub by_rows : {W : Type 0} → (cell : W → ℕ → ℕ → ℕ) → (p r : Planes W)
    → ((q k : ℕ) → q < 8 → bit_row cell (plane_word p q) k ≡ map (λ i. get_or (bit_row cell (plane_word r i) k) q 0) (range_with_len 0 8))
    → IsTransposed cell p r
by_rows cell p r e = record {
  cells = λ q i k h l.
      sym (row_bit cell (plane_word p q) k i l) ∙ ap (λ x. get_or x i 0) (e q k h)
      ∙ get_or-map-range_with_len (λ i. get_or (bit_row cell (plane_word r i) k) q 0) 0 8 i i 0 l (omega arith)
      ∙ row_bit cell (plane_word r i) k q h;
}

pub turned_round : {W : Type 0} → (cell : W → ℕ → ℕ → ℕ) → (p r : Planes W) → IsTransposed cell p r → IsTransposed cell r p
turned_round cell p r e = record { cells = λ q i k h l. sym (e.cells i q k l h) }

pub byte_from_bits : {P : Type 0} → (bit : P → ℕ → ℕ → ℕ) → (x : Planes P) (j b n : ℕ) → n < 256
    → ((q : ℕ) → q < 8 → bit (plane_word x q) j b ≡ bit_at n q) → byte_of bit x j b ≡ n
unfolding byte_of
byte_from_bits bit x j b n h e =
    same_image number_of _ _ _ _ _ _ _ _ _ _ _ _ _ _ _ _ (e 0 (omega arith)) (e 1 (omega arith)) (e 2 (omega arith)) (e 3 (omega arith)) (e 4 (omega arith)) (e 5 (omega arith)) (e 6 (omega arith)) (e 7 (omega arith)) ∙ spread n h

-- ---- eight blocks in vectors

pub of_lanes : (p r : Planes (List ℕ)) → IsTransposed lane_cell p r → (b : ℕ) → b < 8 → (x : List ℕ) → length x ≡ 16
    → ((j : ℕ) → get_or x j 0 < 256) → ((j : ℕ) → j < 16 → get_or (plane_word r b) (lane j) 0 ≡ get_or x j 0) → block lane_bit p b ≡ x
unfolding block
of_lanes p r e b h x long bytes lanes =
    same_state (λ j. byte_of lane_bit p (j % 4 + 4 * (j / 4)) b) (λ j. get_or x j 0) (λ j l.
    let i : j % 4 + 4 * (j / 4) ≡ j = omega arith in
    rw i (byte_from_bits lane_bit p j b (get_or x j 0) (bytes j) (λ q s. e.cells q b (lane j) s h ∙ ap (λ n. bit_at n q) (lanes j l))))
    ∙ sym (fill_by_all (λ j. get_or x j 0) x 16 0 long (λ k l. refl))
