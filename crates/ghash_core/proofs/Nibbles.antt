-- A product of blocks, taken four bits at a time.
use Rattle.std.proofs.Common.{◌≡◌, ℕ, zero, suc, ◌+◌, ◌-◌, ◌*◌, ◌/◌, ◌%◌, ◌^◌, ◌<◌, ◌≤◌, get_or, bit_xor, refl, sym, ap, ◌∙◌, arith}
use Rattle.std.specs.Int.{bit_at}
use Rattle.std.specs.Simd.Lanes.{digits_l}
use Rattle.std.specs.Int.Bits.{xor_assoc, xor_zero_r}
use Rattle.std.proofs.lemmas.Nat.{shr-shr}
use Rattle.cipher_spec.specs.Field.{add_if}
use Rattle.cipher_spec.specs.Ghash.{half, halves, times_bits}
use Rattle.ghash_core.specs.Tables.{block_byte, chosen, nibble_times}

-- what is added at a bit may be added to a sum's second part
add_if_xor : (b z w v : ℕ) → add_if b (bit_xor z w) v ≡ bit_xor z (add_if b w v)
add_if_xor zero z w v = refl
add_if_xor (suc b) z w v = xor_assoc z w v

-- four bits in a row, as one sum
four_bits : (a b c d z v0 v1 v2 v3 : ℕ) → add_if d (add_if c (add_if b (add_if a z v0) v1) v2) v3 ≡ bit_xor z (add_if d (add_if c (add_if b (add_if a 0 v0) v1) v2) v3)
four_bits a b c d z v0 v1 v2 v3 =
    let e0 : add_if a z v0 ≡ bit_xor z (add_if a 0 v0) = ap (λ s. add_if a s v0) (sym (xor_zero_r z)) ∙ add_if_xor a z 0 v0 in
    let e1 : add_if b (add_if a z v0) v1 ≡ bit_xor z (add_if b (add_if a 0 v0) v1) = ap (λ s. add_if b s v1) e0 ∙ add_if_xor b z _ v1 in
    let e2 : add_if c (add_if b (add_if a z v0) v1) v2 ≡ bit_xor z (add_if c (add_if b (add_if a 0 v0) v1) v2) = ap (λ s. add_if c s v2) e1 ∙ add_if_xor c z _ v2 in
    ap (λ s. add_if d s v3) e2 ∙ add_if_xor d z _ v3

-- a bit, counted from bit k on
bit_from : (x k i j : ℕ) → j ≡ k + i → bit_at x j ≡ x / 2 ^ k / 2 ^ i % 2
bit_from x k i j e = rw (e, ← shr-shr x k i) refl

bit_of_nibble_0 : (q : ℕ) → q / 2 ^ 0 % 2 ≡ q % 16 % 2
bit_of_nibble_0 q = omega arith

bit_of_nibble_1 : (q : ℕ) → q / 2 ^ 1 % 2 ≡ q % 16 / 2 % 2
bit_of_nibble_1 q = omega arith

bit_of_nibble_2 : (q : ℕ) → q / 2 ^ 2 % 2 ≡ q % 16 / 4 % 2
bit_of_nibble_2 q = omega arith

bit_of_nibble_3 : (q : ℕ) → q / 2 ^ 3 % 2 ≡ q % 16 / 8 % 2
bit_of_nibble_3 q = omega arith

-- four more bits add the product of the four
pub times_bits-nibble : (x y n : ℕ) → n ≤ 124 → times_bits (n + 4) x y ≡ bit_xor (times_bits n x y) (nibble_times (halves n y) (x / 2 ^ (124 - n) % 16))
unfolding nibble_times chosen
times_bits-nibble x y n h =
    let q = x / 2 ^ (124 - n) in
    let e0 : bit_at x (127 - n) ≡ q % 16 / 8 % 2 = bit_from x (124 - n) 3 (127 - n) (omega arith) ∙ bit_of_nibble_3 q in
    let e1 : bit_at x (127 - suc n) ≡ q % 16 / 4 % 2 = bit_from x (124 - n) 2 (127 - suc n) (omega arith) ∙ bit_of_nibble_2 q in
    let e2 : bit_at x (127 - suc (suc n)) ≡ q % 16 / 2 % 2 = bit_from x (124 - n) 1 (127 - suc (suc n)) (omega arith) ∙ bit_of_nibble_1 q in
    let e3 : bit_at x (127 - suc (suc (suc n))) ≡ q % 16 % 2 = bit_from x (124 - n) 0 (127 - suc (suc (suc n))) (omega arith) ∙ bit_of_nibble_0 q in
    let f : n + 4 ≡ suc (suc (suc (suc n))) = omega arith in
    let v = halves n y in
    rw (f, e3, e2, e1, e0) (four_bits (q % 16 / 8 % 2) (q % 16 / 4 % 2) (q % 16 / 2 % 2) (q % 16 % 2) (times_bits n x y) v (half v) (half (half v)) (half (half (half v))))

-- byte i of a number that is written out, counted from the last
pub get_or-digits_l : (n x i : ℕ) → i < n → get_or (digits_l 256 n x) i 0 ≡ block_byte x i
get_or-digits_l zero x i h = absurd (omega arith)
get_or-digits_l (suc n) x zero h =
    let e : x % 256 ≡ x / 2 ^ (8 * 0) % 256 = omega arith in
    e
get_or-digits_l (suc n) x (suc i) h =
    let e : 8 + 8 * i ≡ 8 * suc i = omega arith in
    get_or-digits_l n (x / 256) i (omega arith) ∙ ap (λ q. q % 256) (shr-shr x 8 (8 * i) ∙ ap (λ k. x / 2 ^ k) e)

-- the upper four bits of a byte
pub upper_of_byte : (x i : ℕ) → i < 16 → block_byte x (15 - i) / 16 ≡ x / 2 ^ (124 - 8 * i) % 16
upper_of_byte x i h =
    let b = x / 2 ^ (8 * (15 - i)) in
    let e : 8 * (15 - i) + 4 ≡ 124 - 8 * i = omega arith in
    let s : b / 2 ^ 4 ≡ x / 2 ^ (124 - 8 * i) = shr-shr x (8 * (15 - i)) 4 ∙ ap (λ n. x / 2 ^ n) e in
    let t : (q : ℕ) → q % 256 / 16 ≡ q / 16 % 16 = λ q. omega arith in
    t b ∙ ap (λ n. n % 16) s

-- and the lower four
pub lower_of_byte : (x i : ℕ) → i < 16 → block_byte x (15 - i) % 16 ≡ x / 2 ^ (120 - 8 * i) % 16
lower_of_byte x i h =
    let e : 8 * (15 - i) ≡ 120 - 8 * i = omega arith in
    let t : (q : ℕ) → q % 256 % 16 ≡ q % 16 = λ q. omega arith in
    t (x / 2 ^ (8 * (15 - i))) ∙ ap (λ n. x / 2 ^ n % 16) e
