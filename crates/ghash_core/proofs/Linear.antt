-- The product of blocks is linear in each factor, since it is a sum of shifted copies of the second, one for each bit of the first.
use Rattle.std.proofs.Common.{◌≡◌, ℕ, zero, suc, ◌+◌, ◌-◌, ◌/◌, ◌%◌, ◌<◌, bit_xor, refl, sym, ap, ◌∙◌, arith}
use Rattle.std.specs.Int.{bit_at}
use Rattle.std.specs.Int.Bits.{xor_assoc, xor_self, xor_zero_r}
use Rattle.std.proofs.lemmas.Nat.{xor_comm, xor_shr}
use Rattle.std.proofs.lemmas.Nat.Bits.{bit_at_xor, bit_at-lt}
use Rattle.cipher_spec.specs.Field.{add_if}
use Rattle.cipher_spec.specs.Ghash.{half, halves, reduction, times_bits}

-- the sum of two sums, taken crosswise
pub xor_pairs : (a b c d : ℕ) → bit_xor (bit_xor a b) (bit_xor c d) ≡ bit_xor (bit_xor a c) (bit_xor b d)
xor_pairs a b c d =
    xor_assoc a b (bit_xor c d) ∙ ap (bit_xor a) (sym (xor_assoc b c d) ∙ ap (λ s. bit_xor s d) (xor_comm b c) ∙ xor_assoc c b d) ∙ sym (xor_assoc a c (bit_xor b d))

-- one more block, added at the sum of two bits
add_if-bits : (b c z w v : ℕ) → b < 2 → c < 2 → add_if ((b + c) % 2) (bit_xor z w) v ≡ bit_xor (add_if b z v) (add_if c w v)
add_if-bits zero zero z w v hb hc = refl
add_if-bits zero (suc zero) z w v hb hc = xor_assoc z w v
add_if-bits (suc zero) zero z w v hb hc =
    xor_assoc z w v ∙ ap (bit_xor z) (xor_comm w v) ∙ sym (xor_assoc z v w)
add_if-bits (suc zero) (suc zero) z w v hb hc =
    sym (xor_pairs z v w v ∙ ap (bit_xor (bit_xor z w)) (xor_self v) ∙ xor_zero_r (bit_xor z w))
add_if-bits (suc (suc b)) c z w v hb hc = absurd (omega arith)
add_if-bits zero (suc (suc c)) z w v hb hc = absurd (omega arith)
add_if-bits (suc zero) (suc (suc c)) z w v hb hc = absurd (omega arith)

-- one more sum, added at a bit
add_if-sums : (b z w u v : ℕ) → add_if b (bit_xor z w) (bit_xor u v) ≡ bit_xor (add_if b z u) (add_if b w v)
add_if-sums zero z w u v = refl
add_if-sums (suc b) z w u v = xor_pairs z w u v

-- the first factor
pub times_bits-sum : (n x y z : ℕ) → times_bits n (bit_xor x y) z ≡ bit_xor (times_bits n x z) (times_bits n y z)
times_bits-sum zero x y z = refl
times_bits-sum (suc n) x y z =
    let k = 127 - n in
    rw (bit_at_xor x y k, times_bits-sum n x y z) (add_if-bits (bit_at x k) (bit_at y k) (times_bits n x z) (times_bits n y z) (halves n z) (bit_at-lt x k) (bit_at-lt y k))

-- the step from one V to the next
pub half-sum : (a b : ℕ) → half (bit_xor a b) ≡ bit_xor (half a) (half b)
half-sum a b =
    let low : bit_xor a b % 2 ≡ (a % 2 + b % 2) % 2 = omega (arith, bit_at_xor a b 0) in
    rw (low, xor_shr a b 1) (add_if-bits (a % 2) (b % 2) (a / 2) (b / 2) reduction (omega arith) (omega arith))

pub halves-sum : (n a b : ℕ) → halves n (bit_xor a b) ≡ bit_xor (halves n a) (halves n b)
halves-sum zero a b = refl
halves-sum (suc n) a b = ap half (halves-sum n a b) ∙ half-sum (halves n a) (halves n b)

-- the second factor
pub times_bits-sum_right : (n x y z : ℕ) → times_bits n x (bit_xor y z) ≡ bit_xor (times_bits n x y) (times_bits n x z)
times_bits-sum_right zero x y z = refl
times_bits-sum_right (suc n) x y z =
    rw (halves-sum n y z, times_bits-sum_right n x y z) (add_if-sums (bit_at x (127 - n)) (times_bits n x y) (times_bits n x z) (halves n y) (halves n z))

pub halves-half : (n y : ℕ) → halves n (half y) ≡ half (halves n y)
halves-half zero y = refl
halves-half (suc n) y = ap half (halves-half n y)

add_if-half : (b z v : ℕ) → add_if b (half z) (half v) ≡ half (add_if b z v)
add_if-half zero z v = refl
add_if-half (suc b) z v = sym (half-sum z v)

-- a second factor that is some steps further
times_bits-half : (n x y : ℕ) → times_bits n x (half y) ≡ half (times_bits n x y)
times_bits-half zero x y = refl
times_bits-half (suc n) x y =
    rw (halves-half n y, times_bits-half n x y) (add_if-half (bit_at x (127 - n)) (times_bits n x y) (halves n y))

pub times_bits-halves : (n x m y : ℕ) → times_bits n x (halves m y) ≡ halves m (times_bits n x y)
times_bits-halves n x zero y = refl
times_bits-halves n x (suc m) y = times_bits-half n x (halves m y) ∙ ap half (times_bits-halves n x m y)
