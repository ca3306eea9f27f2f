-- Planes that have images of the S-box in their lanes, and the columns that are made of them.
use Rattle.std.proofs.Common.{◌≡◌, ℕ, zero, suc, ◌+◌, ◌*◌, ◌/◌, ◌%◌, ◌^◌, ◌<◌, ◌≤◌, Bool, true, false, List, ◌∷◌, cond, leb, map, get_or, bit_xor, refl, sym, ap, ◌∙◌, arith}
use Rattle.std.specs.List.{range_with_len}
use Rattle.std.specs.Int.{bit_at}
use Rattle.std.specs.Int.Bits.{xor_zero_r}
use Rattle.std.proofs.lemmas.Bool.{le-leb, lt-leb}
use Rattle.std.proofs.lemmas.Nat.{xor_comm}
use Rattle.std.proofs.lemmas.Nat.Bits.{bit_at-lt}
use Rattle.std.proofs.lemmas.List.FromFn.{get_or-map-range_with_len}
use Rattle.cipher_spec.specs.Field.{field_product, xtime}
use Rattle.cipher_spec.specs.Aes.{at, state_of, sub_byte}
use Rattle.plane_core.specs.declared.planes.Planes.{Planes}
use Rattle.plane_core.specs.Bits.{block, byte_of, number_of}
use Rattle.plane_core.specs.Places.{lane, lane_bit}
use Rattle.plane_core.proofs.Bytes.{same_image}
use Rattle.plane_core.proofs.States.{same_state}
use Rattle.aes_core.specs.Column.{share}
use Rattle.aes_core.specs.Counters.{column_byte, image, lane_byte, last_byte}
use Rattle.aes_core.proofs.Pages.{triple_is, twice_is}

-- ---- bytes in lanes

pub byte_in : (x : Planes (List ℕ)) (j b : ℕ) → j < 16 → get_or (block lane_bit x b) j 0 ≡ byte_of lane_bit x j b
unfolding block
byte_in x j b h =
    let i : j % 4 + 4 * (j / 4) ≡ j = omega arith in
    get_or-map-range_with_len (λ j. byte_of lane_bit x (j % 4 + 4 * (j / 4)) b) 0 16 j j 0 h (omega arith) ∙ ap (λ j. byte_of lane_bit x j b) i

pub byte_at_lane : (x : Planes (List ℕ)) (j b p : ℕ) → lane j ≡ p → byte_of lane_bit x j b ≡ lane_byte x p b
unfolding byte_of
byte_at_lane x j b p e = ap (λ p. lane_byte x p b) e

small_number : (b0 b1 b2 b3 b4 b5 b6 b7 : ℕ) → b0 < 2 → b1 < 2 → b2 < 2 → b3 < 2 → b4 < 2 → b5 < 2 → b6 < 2 → b7 < 2 → number_of b0 b1 b2 b3 b4 b5 b6 b7 < 256
small_number b0 b1 b2 b3 b4 b5 b6 b7 h0 h1 h2 h3 h4 h5 h6 h7 = omega arith

pub lane_byte_below : (x : Planes (List ℕ)) (p b : ℕ) → lane_byte x p b < 256
lane_byte_below x p b =
    small_number _ _ _ _ _ _ _ _ (bit_at-lt (get_or x.b0 p 0) b) (bit_at-lt (get_or x.b1 p 0) b) (bit_at-lt (get_or x.b2 p 0) b) (bit_at-lt (get_or x.b3 p 0) b)
    (bit_at-lt (get_or x.b4 p 0) b) (bit_at-lt (get_or x.b5 p 0) b) (bit_at-lt (get_or x.b6 p 0) b) (bit_at-lt (get_or x.b7 p 0) b)

-- ---- last bytes

-- a list with another head
pub same_head : (a b : ℕ) (l : List ℕ) → a ≡ b → a ∷ l ≡ b ∷ l
same_head a b l e = ap (λ n. n ∷ l) e

-- the last byte of a count in block i, where f is that of the block's first group
pub last_byte_at : (row : List ℕ) (f first i key j : ℕ) → j < 16 → f % 2 ^ 8 ≡ (first + i) % 2 ^ 8
    → row ≡ map (λ j. bit_xor ((f + 8 * lane j) % 2 ^ 8) key) (range_with_len 0 16)
    → get_or row j 0 ≡ bit_xor ((first + i + 8 * lane j) % 2 ^ 8) key
last_byte_at row f first i key j h e is =
    let n : (f + 8 * lane j) % 2 ^ 8 ≡ (first + i + 8 * lane j) % 2 ^ 8 = omega arith in
    ap (λ l. get_or l j 0) is ∙ get_or-map-range_with_len (λ j. bit_xor ((f + 8 * lane j) % 2 ^ 8) key) 0 16 j j 0 h (omega arith)
    ∙ ap (λ n. bit_xor n key) n

-- the image in lane p of what the S-box made of last bytes
pub image_in_lane : (x y : Planes (List ℕ)) (row : List ℕ) (n key p b : ℕ) → p < 16
    → byte_of lane_bit y (lane p) b ≡ bit_xor (sub_byte (byte_of lane_bit x (lane p) b)) 0x63
    → block lane_bit x b ≡ row → get_or row (lane p) 0 ≡ bit_xor n key → lane_byte y p b ≡ image key n
unfolding image
image_in_lane x y row n key p b h subbed loaded is =
    let place : lane (lane p) ≡ p = omega arith in
    let inside : lane p < 16 = omega arith in
    sym (byte_at_lane y (lane p) b p place) ∙ subbed
    ∙ ap (λ a. bit_xor (sub_byte a) 0x63) (sym (byte_in x (lane p) b inside) ∙ ap (λ l. get_or l (lane p) 0) loaded ∙ is)

-- ---- lanes moved

no_bit : (b : ℕ) → bit_at 0 b ≡ 0
no_bit b = let e : 0 / 2 ^ b ≡ 0 = omega arith in ap (λ n. n % 2) e

bit_moved : (p : Bool) (a b : ℕ) → bit_at (cond p 0 a) b ≡ cond p 0 (bit_at a b)
bit_moved true a b = no_bit b
bit_moved false a b = refl

number_moved : (p : Bool) (b0 b1 b2 b3 b4 b5 b6 b7 : ℕ)
    → number_of (cond p 0 b0) (cond p 0 b1) (cond p 0 b2) (cond p 0 b3) (cond p 0 b4) (cond p 0 b5) (cond p 0 b6) (cond p 0 b7)
    ≡ cond p 0 (number_of b0 b1 b2 b3 b4 b5 b6 b7)
number_moved true b0 b1 b2 b3 b4 b5 b6 b7 = refl
number_moved false b0 b1 b2 b3 b4 b5 b6 b7 = refl

-- the byte j of planes each of which has the lane that `from` says
pub byte_moved : (x y : Planes (List ℕ)) (p : Bool) (j b q : ℕ)
    → get_or y.b0 (lane j) 0 ≡ cond p 0 (get_or x.b0 q 0) → get_or y.b1 (lane j) 0 ≡ cond p 0 (get_or x.b1 q 0)
    → get_or y.b2 (lane j) 0 ≡ cond p 0 (get_or x.b2 q 0) → get_or y.b3 (lane j) 0 ≡ cond p 0 (get_or x.b3 q 0)
    → get_or y.b4 (lane j) 0 ≡ cond p 0 (get_or x.b4 q 0) → get_or y.b5 (lane j) 0 ≡ cond p 0 (get_or x.b5 q 0)
    → get_or y.b6 (lane j) 0 ≡ cond p 0 (get_or x.b6 q 0) → get_or y.b7 (lane j) 0 ≡ cond p 0 (get_or x.b7 q 0)
    → byte_of lane_bit y j b ≡ cond p 0 (lane_byte x q b)
unfolding byte_of
byte_moved x y p j b q e0 e1 e2 e3 e4 e5 e6 e7 =
    let bit : (v a : ℕ) → v ≡ cond p 0 a → bit_at v b ≡ cond p 0 (bit_at a b) = λ v a e. ap (λ n. bit_at n b) e ∙ bit_moved p a b in
    same_image number_of _ _ _ _ _ _ _ _ _ _ _ _ _ _ _ _ (bit _ _ e0) (bit _ _ e1) (bit _ _ e2) (bit _ _ e3) (bit _ _ e4) (bit _ _ e5) (bit _ _ e6) (bit _ _ e7)
    ∙ number_moved p _ _ _ _ _ _ _ _

-- ---- states

-- byte j of a state in planes
pub state_byte : (x : Planes (List ℕ)) (f : ℕ → ℕ → ℕ) (j b : ℕ) → j < 16 → block lane_bit x b ≡ state_of f → byte_of lane_bit x j b ≡ f (j % 4) (j / 4)
state_byte x f j b h is =
    sym (byte_in x j b h) ∙ ap (λ l. get_or l j 0) is ∙ get_or-map-range_with_len (λ k. f (k % 4) (k / 4)) 0 16 j j 0 h (omega arith)

-- a state by its bytes in planes
pub state_from : (x : Planes (List ℕ)) (f : ℕ → ℕ → ℕ) (b : ℕ) → ((j : ℕ) → j < 16 → byte_of lane_bit x j b ≡ f (j % 4) (j / 4)) → block lane_bit x b ≡ state_of f
unfolding block
state_from x f b e =
    same_state (λ j. byte_of lane_bit x (j % 4 + 4 * (j / 4)) b) (λ j. f (j % 4) (j / 4))
    (λ j h. let i : j % 4 + 4 * (j / 4) ≡ j = omega arith in ap (λ j. byte_of lane_bit x j b) i ∙ e j h)

-- the byte in row r of column c, in its lane
pub lane_at : (x : Planes (List ℕ)) (r c b : ℕ) → r < 4 → c < 4 → lane_byte x (4 * r + c) b ≡ at (block lane_bit x b) r c
lane_at x r c b h l =
    let place : lane (r + 4 * c) ≡ 4 * r + c = omega arith in
    sym (byte_at_lane x (r + 4 * c) b (4 * r + c) place) ∙ sym (byte_in x (r + 4 * c) b (omega arith))

-- ---- sums of images

-- the byte that comes from lane p
abbrev pub lane_taken : Planes (List ℕ) → ℕ → ℕ → ℕ
lane_taken x b p = cond (leb 0x80 p) 0 (lane_byte x p b)

taken : (x : Planes (List ℕ)) (b p : ℕ) → p < 16 → lane_taken x b p ≡ lane_byte x p b
taken x b p h = ap (λ t. cond t 0 (lane_byte x p b)) (lt-leb 0x80 p (omega arith))

not_taken : (x : Planes (List ℕ)) (b p : ℕ) → 0x80 ≤ p → lane_taken x b p ≡ 0
not_taken x b p h = ap (λ t. cond t 0 (lane_byte x p b)) (le-leb 0x80 p h)

-- the lane that the byte d rows above an image's own takes the image from: w, or none
abbrev pub once_from : ℕ → ℕ → ℕ → ℕ
once_from zero w none = none
once_from (suc d) w none = w

-- the lane that it takes twice the image from
abbrev pub twice_from : ℕ → ℕ → ℕ → ℕ
twice_from zero w none = w
twice_from (suc zero) w none = w
twice_from (suc (suc d)) w none = none

-- the byte d rows above the image's own, where v is the sum of a and twice e
pub share_row : (x : Planes (List ℕ)) (b d w none v a m e : ℕ) → w < 16 → 0x80 ≤ none → v ≡ bit_xor a m
    → a ≡ lane_taken x b (once_from d w none) → m ≡ xtime e → e ≡ lane_taken x b (twice_from d w none) → v ≡ share d (lane_byte x w b)
share_row x b zero w none v a m e h l is is-a is-m is-e =
    is ∙ ap (λ a. bit_xor a m) (is-a ∙ not_taken x b none l)
    ∙ ap (bit_xor 0) (is-m ∙ ap xtime (is-e ∙ taken x b w h) ∙ twice_is (lane_byte x w b) (lane_byte_below x w b))
share_row x b (suc zero) w none v a m e h l is is-a is-m is-e =
    let y = lane_byte x w b in
    let small : y < 256 = lane_byte_below x w b in
    is ∙ ap (λ a. bit_xor a m) (is-a ∙ taken x b w h) ∙ ap (bit_xor y) (is-m ∙ ap xtime (is-e ∙ taken x b w h) ∙ twice_is y small)
    ∙ xor_comm y (field_product 2 y) ∙ sym (triple_is y small)
share_row x b (suc (suc d)) w none v a m e h l is is-a is-m is-e =
    let y = lane_byte x w b in
    is ∙ ap (λ a. bit_xor a m) (is-a ∙ taken x b w h) ∙ ap (bit_xor y) (is-m ∙ ap xtime (is-e ∙ not_taken x b none l)) ∙ xor_zero_r y

-- ---- the columns of a quad

-- block b of a quad
pub quad_block : (x y : Planes (List ℕ)) (first at q b key : ℕ) → at ≤ 12 → b < 8 → (first + 8 * at) % 2 ^ 8 ≡ (32 * q + 2) % 2 ^ 8
    → ((j b : ℕ) → j < 16 → byte_of lane_bit y j b ≡ column_byte (j % 4) (lane_byte x (at + j / 4) b))
    → ((p b : ℕ) → p < 16 → b < 8 → lane_byte x p b ≡ image key ((first + b + 8 * p) % 2 ^ 8))
    → block lane_bit y b ≡ state_of (λ r c. column_byte r (image key (last_byte q c b)))
quad_block x y first at q b key low few place columns images =
    state_from y (λ r c. column_byte r (image key (last_byte q c b))) b (λ j h.
    let n : (first + b + 8 * (at + j / 4)) % 2 ^ 8 ≡ last_byte q (j / 4) b = omega arith in
    let inside : at + j / 4 < 16 = omega arith in
    columns j b h ∙ ap (column_byte (j % 4)) (images (at + j / 4) b inside few ∙ ap (image key) n))
