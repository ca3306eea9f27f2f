-- The product of blocks has a one, commutes and associates.
use Rattle.std.proofs.Common.{◌≡◌, ℕ, zero, suc, [], ◌∷◌, ◌+◌, ◌-◌, ◌*◌, ◌/◌, ◌%◌, ◌^◌, ◌<◌, bit_xor, refl, sym, ap, ◌∙◌, arith}
use Rattle.std.specs.Int.{bit_at}
use Rattle.std.specs.Int.Bits.{xor_shifted}
use Rattle.std.proofs.Math.Nat.{pow-suc, mul_comm, mul_assoc, add-mul}
use Rattle.std.proofs.lemmas.Nat.{shr-shr, xor_lt, pow_pos}
use Rattle.std.proofs.lemmas.Nat.Bits.{bit_at-zero}
use Rattle.cipher_spec.specs.Field.{add_if}
use Rattle.cipher_spec.specs.Ghash.{half, halves, reduction, times, times_bits, ghash_from}
use Rattle.ghash_core.proofs.Linear.{times_bits-sum, times_bits-sum_right, times_bits-halves}

-- ---- the one, which is the block with bit 0 alone

halves-one : (n k : ℕ) → n + k ≡ 127 → halves n (2 ^ 127) ≡ 2 ^ k
halves-one zero k e =
    let whole : 127 ≡ k = omega arith in
    ap (λ n. 2 ^ n) whole
halves-one (suc n) k e =
    let p = 2 ^ k in
    let before : halves n (2 ^ 127) ≡ p * 2 = halves-one n (suc k) (omega arith) ∙ pow-suc 2 k in
    let even : p * 2 % 2 ≡ 0 = omega arith in
    let rest : p * 2 / 2 ≡ p = omega arith in
    ap half before ∙ rw (even, rest) refl

-- a number of its lowest bit and the others
bit_added : (b q k : ℕ) → b < 2 → b ≡ q % 2 → add_if b (q / 2 * (2 ^ k * 2)) (2 ^ k) ≡ q * 2 ^ k
bit_added zero q k within e =
    let p = 2 ^ k in
    let even : q / 2 * 2 ≡ q = omega arith in
    ap (λ n. q / 2 * n) (mul_comm p 2) ∙ sym (mul_assoc (q / 2) 2 p) ∙ ap (λ n. n * p) even
bit_added (suc zero) q k within e =
    let p = 2 ^ k in
    let odd : q / 2 * 2 + 1 ≡ q = omega arith in
    let moved : q / 2 * 2 ^ suc k ≡ q / 2 * 2 * p = ap (λ n. q / 2 * n) (pow-suc 2 k ∙ mul_comm p 2) ∙ sym (mul_assoc (q / 2) 2 p) in
    let below : p < 2 ^ suc k = omega (arith, pow-suc 2 k, pow_pos k) in
    let joined : bit_xor (q / 2 * 2 ^ suc k) p ≡ q / 2 * 2 ^ suc k + p = xor_shifted (q / 2) (suc k) p below in
    ap (λ n. bit_xor (q / 2 * n) p) (sym (pow-suc 2 k)) ∙ joined ∙ omega (arith, moved, add-mul (q / 2 * 2) 1 p, ap (λ n. n * p) odd)
bit_added (suc (suc b)) q k within e = absurd (omega arith)

-- a product with the one, as far as the upper n bits
times_bits-one : (n k x : ℕ) → n + k ≡ 128 → x < 2 ^ 128 → times_bits n x (2 ^ 127) ≡ x / 2 ^ k * 2 ^ k
times_bits-one zero k x e h =
    let all : 128 ≡ k = omega arith in
    let none : x / 2 ^ 128 * 2 ^ 128 ≡ 0 = omega arith in
    sym none ∙ ap (λ k. x / 2 ^ k * 2 ^ k) all
times_bits-one (suc n) k x e h =
    let here : 127 - n ≡ k = omega arith in
    let q = x / 2 ^ k in
    let above : x / 2 ^ suc k ≡ q / 2 = sym (shr-shr x k 1 ∙ ap (λ n. x / 2 ^ n) (omega arith)) in
    rw (here, times_bits-one n (suc k) x (omega arith) h, halves-one n k (omega arith), above, pow-suc 2 k) (bit_added (q % 2) q k (omega arith) refl)

pub times-one : (x : ℕ) → x < 2 ^ 128 → times x (2 ^ 127) ≡ x
unfolding times
times-one x h =
    let whole : x / 2 ^ 0 * 2 ^ 0 ≡ x = omega arith in
    times_bits-one 128 0 x refl h ∙ whole

-- ---- the product of 128 bits

pub times-sum : (x y z : ℕ) → times (bit_xor x y) z ≡ bit_xor (times x z) (times y z)
unfolding times
times-sum x y z = times_bits-sum 128 x y z

pub times-sum_right : (x y z : ℕ) → times x (bit_xor y z) ≡ bit_xor (times x y) (times x z)
unfolding times
times-sum_right x y z = times_bits-sum_right 128 x y z

pub times-halves : (x n y : ℕ) → times x (halves n y) ≡ halves n (times x y)
unfolding times
times-halves x n y = times_bits-halves 128 x n y

pub halves-nothing : (n : ℕ) → halves n 0 ≡ 0
halves-nothing zero = refl
halves-nothing (suc n) = ap half (halves-nothing n)

add_if-nothing : (b : ℕ) → add_if b 0 0 ≡ 0
add_if-nothing zero = refl
add_if-nothing (suc b) = refl

times_bits-nothing : (n x : ℕ) → times_bits n x 0 ≡ 0
times_bits-nothing zero x = refl
times_bits-nothing (suc n) x = rw (times_bits-nothing n x, halves-nothing n) (add_if-nothing (bit_at x (127 - n)))

times-nothing : (x : ℕ) → times x 0 ≡ 0
unfolding times
times-nothing x = times_bits-nothing 128 x

nothing-times_bits : (n y : ℕ) → times_bits n 0 y ≡ 0
nothing-times_bits zero y = refl
nothing-times_bits (suc n) y = rw (bit_at-zero (127 - n)) (nothing-times_bits n y)

nothing-times : (y : ℕ) → times 0 y ≡ 0
unfolding times
nothing-times y = nothing-times_bits 128 y

-- ---- the order of the factors

-- the first factor as a sum of steps from the one, which are then steps from y
add_if-commutes : (b n s t y : ℕ) → y < 2 ^ 128 → s ≡ times y t → add_if b s (halves n y) ≡ times y (add_if b t (halves n (2 ^ 127)))
add_if-commutes zero n s t y h is = is
add_if-commutes (suc b) n s t y h is =
    let last : times y (halves n (2 ^ 127)) ≡ halves n y = times-halves y n (2 ^ 127) ∙ ap (halves n) (times-one y h) in
    sym (times-sum_right y t (halves n (2 ^ 127)) ∙ rw (last, ← is) refl)

commutes_bits : (n x y : ℕ) → y < 2 ^ 128 → times_bits n x y ≡ times y (times_bits n x (2 ^ 127))
commutes_bits zero x y h = sym (times-nothing y)
commutes_bits (suc n) x y h =
    add_if-commutes (bit_at x (127 - n)) n (times_bits n x y) (times_bits n x (2 ^ 127)) y h (commutes_bits n x y h)

pub times_is_bits : (x y : ℕ) → times x y ≡ times_bits 128 x y
unfolding times
times_is_bits x y = refl

pub times-commutes : (x y : ℕ) → x < 2 ^ 128 → y < 2 ^ 128 → times x y ≡ times y x
times-commutes x y hx hy =
    times_is_bits x y ∙ commutes_bits 128 x y hy ∙ ap (times y) (sym (times_is_bits x (2 ^ 127)) ∙ times-one x hx)

-- ---- the grouping of factors

pub add_if-lt : (b z v : ℕ) → z < 2 ^ 128 → v < 2 ^ 128 → add_if b z v < 2 ^ 128
add_if-lt zero z v hz hv = hz
add_if-lt (suc b) z v hz hv = xor_lt 128 z v hz hv

pub half-lt : (v : ℕ) → v < 2 ^ 128 → half v < 2 ^ 128
half-lt v h = add_if-lt (v % 2) (v / 2) reduction (omega arith) (omega arith)

halves-lt : (n v : ℕ) → v < 2 ^ 128 → halves n v < 2 ^ 128
halves-lt zero v h = h
halves-lt (suc n) v h = half-lt (halves n v) (halves-lt n v h)

halves-times : (n y z : ℕ) → y < 2 ^ 128 → z < 2 ^ 128 → times (halves n y) z ≡ halves n (times y z)
halves-times n y z hy hz =
    times-commutes (halves n y) z (halves-lt n y hy) hz ∙ times-halves z n y ∙ ap (halves n) (times-commutes z y hz hy)

add_if-associates : (b n s t y z : ℕ) → y < 2 ^ 128 → z < 2 ^ 128 → times s z ≡ t → times (add_if b s (halves n y)) z ≡ add_if b t (halves n (times y z))
add_if-associates zero n s t y z hy hz is = is
add_if-associates (suc b) n s t y z hy hz is =
    times-sum s (halves n y) z ∙ rw (is, halves-times n y z hy hz) refl

associates_bits : (n x y z : ℕ) → y < 2 ^ 128 → z < 2 ^ 128 → times (times_bits n x y) z ≡ times_bits n x (times y z)
associates_bits zero x y z hy hz = nothing-times z
associates_bits (suc n) x y z hy hz =
    add_if-associates (bit_at x (127 - n)) n (times_bits n x y) (times_bits n x (times y z)) y z hy hz (associates_bits n x y z hy hz)

pub times-associates : (x y z : ℕ) → y < 2 ^ 128 → z < 2 ^ 128 → times (times x y) z ≡ times x (times y z)
times-associates x y z hy hz =
    ap (λ p. times p z) (times_is_bits x y) ∙ associates_bits 128 x y z hy hz ∙ sym (times_is_bits x (times y z))

-- ---- powers

times_bits-lt : (n x y : ℕ) → y < 2 ^ 128 → times_bits n x y < 2 ^ 128
times_bits-lt zero x y h = omega arith
times_bits-lt (suc n) x y h =
    add_if-lt (bit_at x (127 - n)) (times_bits n x y) (halves n y) (times_bits-lt n x y h) (halves-lt n y h)

pub times-lt : (x y : ℕ) → y < 2 ^ 128 → times x y < 2 ^ 128
unfolding times
times-lt x y h = times_bits-lt 128 x y h

-- a sum, multiplied three times, twice and once more
by_three : (p h : ℕ) → h < 2 ^ 128 → times (times (times p h) h) h ≡ times p (times h (times h h))
by_three p h small =
    times-associates (times p h) h h small small ∙ times-associates p h (times h h) small (times-lt h h small)

by_four : (p h : ℕ) → h < 2 ^ 128 → times (times (times (times p h) h) h) h ≡ times p (times h (times h (times h h)))
by_four p h small =
    by_three (times p h) h small ∙ times-associates p h (times h (times h h)) small (times-lt h (times h h) (times-lt h h small))

-- four blocks, each times a power of h
pub hash_by_powers : (h y a b c d : ℕ) → h < 2 ^ 128 → ghash_from h y (a ∷ b ∷ c ∷ d ∷ []) ≡ bit_xor (bit_xor (bit_xor (times (bit_xor y a) (times h (times h (times h h)))) (times b (times h (times h h)))) (times c (times h h))) (times d h)
hash_by_powers h y a b c d small =
    let p = times (bit_xor y a) h in
    let two : times (bit_xor p b) h ≡ bit_xor (times p h) (times b h) = times-sum p b h in
    let three : times (bit_xor (times (bit_xor p b) h) c) h ≡ bit_xor (bit_xor (times (times p h) h) (times (times b h) h)) (times c h) =
    ap (λ s. times (bit_xor s c) h) two ∙ times-sum (bit_xor (times p h) (times b h)) c h ∙ ap (λ s. bit_xor s (times c h)) (times-sum (times p h) (times b h) h) in
    let four : times (bit_xor (bit_xor (bit_xor (times (times p h) h) (times (times b h) h)) (times c h)) d) h ≡ bit_xor (bit_xor (bit_xor (times (times (times p h) h) h) (times (times (times b h) h) h)) (times (times c h) h)) (times d h) =
    times-sum (bit_xor (bit_xor (times (times p h) h) (times (times b h) h)) (times c h)) d h ∙ ap (λ s. bit_xor s (times d h)) (times-sum (bit_xor (times (times p h) h) (times (times b h) h)) (times c h) h ∙ ap (λ s. bit_xor s (times (times c h) h)) (times-sum (times (times p h) h) (times (times b h) h) h)) in
    ap (λ s. times (bit_xor s d) h) three ∙ four ∙ rw (by_four (bit_xor y a) h small, by_three b h small, times-associates c h h small small) refl

-- two blocks, of which the first waited for the second
pub hash_by_square : (h p b : ℕ) → h < 2 ^ 128 → bit_xor (times p (times h h)) (times b h) ≡ times (bit_xor (times p h) b) h
hash_by_square h p b small =
    sym (times-sum (times p h) b h ∙ ap (λ s. bit_xor s (times b h)) (times-associates p h h small small))
