-- A byte by its bits, and what is computed of all bytes.
use Rattle.std.proofs.Common.{◌≡◌, ℕ, zero, suc, ◌<◌, T, eqb, bit_xor, refl, sym, ◌∙◌, arith}
use Rattle.std.specs.Int.{bit_at}
use Rattle.std.proofs.lemmas.Nat.{xor_lt}
use Rattle.cipher_spec.proofs.Computed.{holds_below, same_below}
use Rattle.plane_core.specs.declared.planes.Planes.{Planes}
use Rattle.plane_core.specs.Bits.{number_of, byte_of}
use Rattle.plane_core.specs.Grid.{plane_word}
use Rattle.plane_core.proofs.Gates.{bit_of_xor}

-- a function of a byte's bits at the byte n
abbrev pub at_bits : (ℕ → ℕ → ℕ → ℕ → ℕ → ℕ → ℕ → ℕ → ℕ) → ℕ → ℕ
at_bits f n = f (bit_at n 0) (bit_at n 1) (bit_at n 2) (bit_at n 3) (bit_at n 4) (bit_at n 5) (bit_at n 6) (bit_at n 7)

pub same_image : (f : ℕ → ℕ → ℕ → ℕ → ℕ → ℕ → ℕ → ℕ → ℕ) (a0 a1 a2 a3 a4 a5 a6 a7 b0 b1 b2 b3 b4 b5 b6 b7 : ℕ)
    → a0 ≡ b0 → a1 ≡ b1 → a2 ≡ b2 → a3 ≡ b3 → a4 ≡ b4 → a5 ≡ b5 → a6 ≡ b6 → a7 ≡ b7 → f a0 a1 a2 a3 a4 a5 a6 a7 ≡ f b0 b1 b2 b3 b4 b5 b6 b7
same_image f a0 a1 a2 a3 a4 a5 a6 a7 b0 b1 b2 b3 b4 b5 b6 b7 e0 e1 e2 e3 e4 e5 e6 e7 = rw (e0, e1, e2, e3, e4, e5, e6, e7) refl

number_below : (b0 b1 b2 b3 b4 b5 b6 b7 : ℕ) → b0 < 2 → b1 < 2 → b2 < 2 → b3 < 2 → b4 < 2 → b5 < 2 → b6 < 2 → b7 < 2 → number_of b0 b1 b2 b3 b4 b5 b6 b7 < 256
number_below b0 b1 b2 b3 b4 b5 b6 b7 h0 h1 h2 h3 h4 h5 h6 h7 = omega arith

bit0_of : (b0 b1 b2 b3 b4 b5 b6 b7 : ℕ) → b0 < 2 → b1 < 2 → b2 < 2 → b3 < 2 → b4 < 2 → b5 < 2 → b6 < 2 → b7 < 2 → bit_at (number_of b0 b1 b2 b3 b4 b5 b6 b7) 0 ≡ b0
bit0_of b0 b1 b2 b3 b4 b5 b6 b7 h0 h1 h2 h3 h4 h5 h6 h7 = omega arith

bit1_of : (b0 b1 b2 b3 b4 b5 b6 b7 : ℕ) → b0 < 2 → b1 < 2 → b2 < 2 → b3 < 2 → b4 < 2 → b5 < 2 → b6 < 2 → b7 < 2 → bit_at (number_of b0 b1 b2 b3 b4 b5 b6 b7) 1 ≡ b1
bit1_of b0 b1 b2 b3 b4 b5 b6 b7 h0 h1 h2 h3 h4 h5 h6 h7 = omega arith

bit2_of : (b0 b1 b2 b3 b4 b5 b6 b7 : ℕ) → b0 < 2 → b1 < 2 → b2 < 2 → b3 < 2 → b4 < 2 → b5 < 2 → b6 < 2 → b7 < 2 → bit_at (number_of b0 b1 b2 b3 b4 b5 b6 b7) 2 ≡ b2
bit2_of b0 b1 b2 b3 b4 b5 b6 b7 h0 h1 h2 h3 h4 h5 h6 h7 = omega arith

bit3_of : (b0 b1 b2 b3 b4 b5 b6 b7 : ℕ) → b0 < 2 → b1 < 2 → b2 < 2 → b3 < 2 → b4 < 2 → b5 < 2 → b6 < 2 → b7 < 2 → bit_at (number_of b0 b1 b2 b3 b4 b5 b6 b7) 3 ≡ b3
bit3_of b0 b1 b2 b3 b4 b5 b6 b7 h0 h1 h2 h3 h4 h5 h6 h7 = omega arith

bit4_of : (b0 b1 b2 b3 b4 b5 b6 b7 : ℕ) → b0 < 2 → b1 < 2 → b2 < 2 → b3 < 2 → b4 < 2 → b5 < 2 → b6 < 2 → b7 < 2 → bit_at (number_of b0 b1 b2 b3 b4 b5 b6 b7) 4 ≡ b4
bit4_of b0 b1 b2 b3 b4 b5 b6 b7 h0 h1 h2 h3 h4 h5 h6 h7 = omega arith

bit5_of : (b0 b1 b2 b3 b4 b5 b6 b7 : ℕ) → b0 < 2 → b1 < 2 → b2 < 2 → b3 < 2 → b4 < 2 → b5 < 2 → b6 < 2 → b7 < 2 → bit_at (number_of b0 b1 b2 b3 b4 b5 b6 b7) 5 ≡ b5
bit5_of b0 b1 b2 b3 b4 b5 b6 b7 h0 h1 h2 h3 h4 h5 h6 h7 = omega arith

bit6_of : (b0 b1 b2 b3 b4 b5 b6 b7 : ℕ) → b0 < 2 → b1 < 2 → b2 < 2 → b3 < 2 → b4 < 2 → b5 < 2 → b6 < 2 → b7 < 2 → bit_at (number_of b0 b1 b2 b3 b4 b5 b6 b7) 6 ≡ b6
bit6_of b0 b1 b2 b3 b4 b5 b6 b7 h0 h1 h2 h3 h4 h5 h6 h7 = omega arith

bit7_of : (b0 b1 b2 b3 b4 b5 b6 b7 : ℕ) → b0 < 2 → b1 < 2 → b2 < 2 → b3 < 2 → b4 < 2 → b5 < 2 → b6 < 2 → b7 < 2 → bit_at (number_of b0 b1 b2 b3 b4 b5 b6 b7) 7 ≡ b7
bit7_of b0 b1 b2 b3 b4 b5 b6 b7 h0 h1 h2 h3 h4 h5 h6 h7 = omega arith

pub byte_below : {P : Type 0} → (bit : P → ℕ → ℕ → ℕ) → ((p : P) (j b : ℕ) → bit p j b < 2) → (x : Planes P) (j b : ℕ) → byte_of bit x j b < 256
unfolding byte_of
byte_below bit is_bit x j b = number_below (bit x.b0 j b) (bit x.b1 j b) (bit x.b2 j b) (bit x.b3 j b) (bit x.b4 j b) (bit x.b5 j b) (bit x.b6 j b) (bit x.b7 j b) (is_bit x.b0 j b) (is_bit x.b1 j b) (is_bit x.b2 j b) (is_bit x.b3 j b) (is_bit x.b4 j b) (is_bit x.b5 j b) (is_bit x.b6 j b) (is_bit x.b7 j b)

-- bit i of a byte is that of plane i
byte_bit : {P : Type 0} → (bit : P → ℕ → ℕ → ℕ) → ((p : P) (j b : ℕ) → bit p j b < 2) → (x : Planes P) (j b i : ℕ) → i < 8
    → bit_at (byte_of bit x j b) i ≡ bit (plane_word x i) j b
unfolding byte_of
byte_bit bit is_bit x j b zero h = bit0_of (bit x.b0 j b) (bit x.b1 j b) (bit x.b2 j b) (bit x.b3 j b) (bit x.b4 j b) (bit x.b5 j b) (bit x.b6 j b) (bit x.b7 j b) (is_bit x.b0 j b) (is_bit x.b1 j b) (is_bit x.b2 j b) (is_bit x.b3 j b) (is_bit x.b4 j b) (is_bit x.b5 j b) (is_bit x.b6 j b) (is_bit x.b7 j b)
byte_bit bit is_bit x j b (suc zero) h = bit1_of (bit x.b0 j b) (bit x.b1 j b) (bit x.b2 j b) (bit x.b3 j b) (bit x.b4 j b) (bit x.b5 j b) (bit x.b6 j b) (bit x.b7 j b) (is_bit x.b0 j b) (is_bit x.b1 j b) (is_bit x.b2 j b) (is_bit x.b3 j b) (is_bit x.b4 j b) (is_bit x.b5 j b) (is_bit x.b6 j b) (is_bit x.b7 j b)
byte_bit bit is_bit x j b (suc (suc zero)) h = bit2_of (bit x.b0 j b) (bit x.b1 j b) (bit x.b2 j b) (bit x.b3 j b) (bit x.b4 j b) (bit x.b5 j b) (bit x.b6 j b) (bit x.b7 j b) (is_bit x.b0 j b) (is_bit x.b1 j b) (is_bit x.b2 j b) (is_bit x.b3 j b) (is_bit x.b4 j b) (is_bit x.b5 j b) (is_bit x.b6 j b) (is_bit x.b7 j b)
byte_bit bit is_bit x j b (suc (suc (suc zero))) h = bit3_of (bit x.b0 j b) (bit x.b1 j b) (bit x.b2 j b) (bit x.b3 j b) (bit x.b4 j b) (bit x.b5 j b) (bit x.b6 j b) (bit x.b7 j b) (is_bit x.b0 j b) (is_bit x.b1 j b) (is_bit x.b2 j b) (is_bit x.b3 j b) (is_bit x.b4 j b) (is_bit x.b5 j b) (is_bit x.b6 j b) (is_bit x.b7 j b)
byte_bit bit is_bit x j b (suc (suc (suc (suc zero)))) h = bit4_of (bit x.b0 j b) (bit x.b1 j b) (bit x.b2 j b) (bit x.b3 j b) (bit x.b4 j b) (bit x.b5 j b) (bit x.b6 j b) (bit x.b7 j b) (is_bit x.b0 j b) (is_bit x.b1 j b) (is_bit x.b2 j b) (is_bit x.b3 j b) (is_bit x.b4 j b) (is_bit x.b5 j b) (is_bit x.b6 j b) (is_bit x.b7 j b)
byte_bit bit is_bit x j b (suc (suc (suc (suc (suc zero))))) h = bit5_of (bit x.b0 j b) (bit x.b1 j b) (bit x.b2 j b) (bit x.b3 j b) (bit x.b4 j b) (bit x.b5 j b) (bit x.b6 j b) (bit x.b7 j b) (is_bit x.b0 j b) (is_bit x.b1 j b) (is_bit x.b2 j b) (is_bit x.b3 j b) (is_bit x.b4 j b) (is_bit x.b5 j b) (is_bit x.b6 j b) (is_bit x.b7 j b)
byte_bit bit is_bit x j b (suc (suc (suc (suc (suc (suc zero)))))) h = bit6_of (bit x.b0 j b) (bit x.b1 j b) (bit x.b2 j b) (bit x.b3 j b) (bit x.b4 j b) (bit x.b5 j b) (bit x.b6 j b) (bit x.b7 j b) (is_bit x.b0 j b) (is_bit x.b1 j b) (is_bit x.b2 j b) (is_bit x.b3 j b) (is_bit x.b4 j b) (is_bit x.b5 j b) (is_bit x.b6 j b) (is_bit x.b7 j b)
byte_bit bit is_bit x j b (suc (suc (suc (suc (suc (suc (suc zero))))))) h = bit7_of (bit x.b0 j b) (bit x.b1 j b) (bit x.b2 j b) (bit x.b3 j b) (bit x.b4 j b) (bit x.b5 j b) (bit x.b6 j b) (bit x.b7 j b) (is_bit x.b0 j b) (is_bit x.b1 j b) (is_bit x.b2 j b) (is_bit x.b3 j b) (is_bit x.b4 j b) (is_bit x.b5 j b) (is_bit x.b6 j b) (is_bit x.b7 j b)
byte_bit bit is_bit x j b (suc (suc (suc (suc (suc (suc (suc (suc i)))))))) h = absurd (omega arith)

-- what a function of the bits gives, where it is computed at each byte
pub by_all_bytes : {P : Type 0} → (bit : P → ℕ → ℕ → ℕ) → ((p : P) (j b : ℕ) → bit p j b < 2)
    → (f : ℕ → ℕ → ℕ → ℕ → ℕ → ℕ → ℕ → ℕ → ℕ) (g : ℕ → ℕ) → T (holds_below (λ n. eqb (at_bits f n) (g n)) 256)
    → (x : Planes P) (j b : ℕ) → f (bit x.b0 j b) (bit x.b1 j b) (bit x.b2 j b) (bit x.b3 j b) (bit x.b4 j b) (bit x.b5 j b) (bit x.b6 j b) (bit x.b7 j b) ≡ g (byte_of bit x j b)
by_all_bytes bit is_bit f g computed x j b =
    sym (same_image f _ _ _ _ _ _ _ _ (bit x.b0 j b) (bit x.b1 j b) (bit x.b2 j b) (bit x.b3 j b) (bit x.b4 j b) (bit x.b5 j b) (bit x.b6 j b) (bit x.b7 j b)
    (byte_bit bit is_bit x j b 0 (omega arith)) (byte_bit bit is_bit x j b 1 (omega arith)) (byte_bit bit is_bit x j b 2 (omega arith)) (byte_bit bit is_bit x j b 3 (omega arith)) (byte_bit bit is_bit x j b 4 (omega arith)) (byte_bit bit is_bit x j b 5 (omega arith)) (byte_bit bit is_bit x j b 6 (omega arith)) (byte_bit bit is_bit x j b 7 (omega arith)))
    ∙ same_below (at_bits f) g 256 computed (byte_of bit x j b) (byte_below bit is_bit x j b)

-- a byte is the number of its bits
pub spread : (n : ℕ) → n < 256 → at_bits number_of n ≡ n
spread n h = same_below (λ n. at_bits number_of n) (λ n. n) 256 tt n h

sum_bit : {P : Type 0} → (bit : P → ℕ → ℕ → ℕ) → ((p : P) (j b : ℕ) → bit p j b < 2) → (x y : Planes P) (j b i : ℕ) → i < 8
    → bit_xor (bit (plane_word x i) j b) (bit (plane_word y i) j b) ≡ bit_at (bit_xor (byte_of bit x j b) (byte_of bit y j b)) i
sum_bit bit is_bit x y j b i h =
    rw (bit_of_xor (byte_of bit x j b) (byte_of bit y j b) i, byte_bit bit is_bit x j b i h, byte_bit bit is_bit y j b i h) refl

-- the byte of the sums of two bytes' bits is the bytes' sum
pub byte_sum : {P : Type 0} → (bit : P → ℕ → ℕ → ℕ) → ((p : P) (j b : ℕ) → bit p j b < 2) → (x y : Planes P) (j b : ℕ)
    → number_of (bit_xor (bit x.b0 j b) (bit y.b0 j b)) (bit_xor (bit x.b1 j b) (bit y.b1 j b)) (bit_xor (bit x.b2 j b) (bit y.b2 j b)) (bit_xor (bit x.b3 j b) (bit y.b3 j b)) (bit_xor (bit x.b4 j b) (bit y.b4 j b)) (bit_xor (bit x.b5 j b) (bit y.b5 j b)) (bit_xor (bit x.b6 j b) (bit y.b6 j b)) (bit_xor (bit x.b7 j b) (bit y.b7 j b)) ≡ bit_xor (byte_of bit x j b) (byte_of bit y j b)
byte_sum bit is_bit x y j b =
    same_image number_of _ _ _ _ _ _ _ _ _ _ _ _ _ _ _ _
    (sum_bit bit is_bit x y j b 0 (omega arith)) (sum_bit bit is_bit x y j b 1 (omega arith)) (sum_bit bit is_bit x y j b 2 (omega arith)) (sum_bit bit is_bit x y j b 3 (omega arith)) (sum_bit bit is_bit x y j b 4 (omega arith)) (sum_bit bit is_bit x y j b 5 (omega arith)) (sum_bit bit is_bit x y j b 6 (omega arith)) (sum_bit bit is_bit x y j b 7 (omega arith))
    ∙ spread (bit_xor (byte_of bit x j b) (byte_of bit y j b)) (xor_lt 8 _ _ (byte_below bit is_bit x j b) (byte_below bit is_bit y j b))
