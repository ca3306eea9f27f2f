-- Blocks that are moved many bits at once, and what comes back in of what falls out.
use Rattle.std.proofs.Common.{◌≡◌, ℕ, zero, suc, ◌+◌, ◌*◌, ◌/◌, ◌%◌, ◌^◌, ◌<◌, bit_xor, refl, sym, ap, ◌∙◌, arith}
use Rattle.std.specs.Int.Bits.{xor_assoc, xor_shifted}
use Rattle.std.proofs.Math.Nat.{pow-suc}
use Rattle.std.proofs.lemmas.Nat.{mod-pow-add, pow_pos, shl-shr, shr-shr, shr_split}
use Rattle.cipher_spec.specs.Ghash.{half, halves, times}
use Rattle.ghash_core.specs.Tables.{folded}
use Rattle.ghash_core.proofs.Linear.{halves-half, halves-sum}
use Rattle.ghash_core.proofs.Ring.{halves-nothing, times-halves, times-one, times-sum_right}

-- v moved n bits to the right, reduced. It is `halves`, which at a numeral would be written out.
pub moved : ℕ → ℕ → ℕ
moved n v = halves n v

pub moved_is : (n v : ℕ) → moved n v ≡ halves n v
unfolding moved
moved_is n v = refl

pub moved-sum : (n a b : ℕ) → moved n (bit_xor a b) ≡ bit_xor (moved n a) (moved n b)
unfolding moved
moved-sum n a b = halves-sum n a b

pub moved-nothing : (n : ℕ) → moved n 0 ≡ 0
unfolding moved
moved-nothing n = halves-nothing n

pub moved-half : (n v : ℕ) → moved n (half v) ≡ half (moved n v)
unfolding moved
moved-half n v = halves-half n v

moved-suc : (n v : ℕ) → moved (suc n) v ≡ half (moved n v)
unfolding moved
moved-suc n v = refl

moved-zero : (v : ℕ) → moved 0 v ≡ v
unfolding moved
moved-zero v = refl

-- in two steps
moved-add : (n m v : ℕ) → moved (n + m) v ≡ moved n (moved m v)
moved-add zero m v =
    let e : 0 + m ≡ m = omega arith in
    ap (λ k. moved k v) e ∙ sym (moved-zero (moved m v))
moved-add (suc n) m v =
    let e : suc n + m ≡ suc (n + m) = omega arith in
    ap (λ k. moved k v) e ∙ moved-suc (n + m) v ∙ ap half (moved-add n m v) ∙ sym (moved-suc n (moved m v))

half_of_double : (r : ℕ) → half (r * 2) ≡ r
half_of_double r =
    let even : r * 2 % 2 ≡ 0 = omega arith in
    let rest : r * 2 / 2 ≡ r = omega arith in
    rw (even, rest) refl

-- where only zeros fall out
pub moved-back : (m r : ℕ) → moved m (r * 2 ^ m) ≡ r
moved-back zero r =
    let e : r * 2 ^ 0 ≡ r = omega arith in
    moved-zero (r * 2 ^ 0) ∙ e
moved-back (suc m) r =
    let p = 2 ^ m in
    let e : r * (p * 2) ≡ r * 2 * p = omega arith in
    moved-suc m (r * 2 ^ suc m) ∙ ap (λ n. half (moved m (r * n))) (pow-suc 2 m) ∙ ap (λ n. half (moved m n)) e ∙ ap half (moved-back m (r * 2)) ∙ half_of_double r

moved-even : (m v : ℕ) → v % 2 ^ m ≡ 0 → moved m v ≡ v / 2 ^ m
moved-even m v even =
    let whole : v / 2 ^ m * 2 ^ m ≡ v = omega (arith, shr_split v m) in
    ap (moved m) (sym whole) ∙ moved-back m (v / 2 ^ m)

-- ---- x ^ 128 = 1 + x + x ^ 2 + x ^ 7

around_one : moved 128 (2 ^ 127) ≡ bit_xor (bit_xor (bit_xor (2 ^ 127) (moved 1 (2 ^ 127))) (moved 2 (2 ^ 127))) (moved 7 (2 ^ 127))
unfolding moved
around_one = refl

times-moved : (v n : ℕ) → v < 2 ^ 128 → times v (moved n (2 ^ 127)) ≡ moved n v
times-moved v n h =
    ap (times v) (moved_is n (2 ^ 127)) ∙ times-halves v n (2 ^ 127) ∙ sym (moved_is n (times v (2 ^ 127))) ∙ ap (moved n) (times-one v h)

around : (v : ℕ) → v < 2 ^ 128 → moved 128 v ≡ bit_xor (bit_xor (bit_xor v (moved 1 v)) (moved 2 v)) (moved 7 v)
around v h =
    let one = 2 ^ 127 in
    let first : times v (bit_xor one (moved 1 one)) ≡ bit_xor v (moved 1 v) =
    times-sum_right v one (moved 1 one) ∙ ap (λ s. bit_xor s (times v (moved 1 one))) (times-one v h) ∙ ap (bit_xor v) (times-moved v 1 h) in
    let second : times v (bit_xor (bit_xor one (moved 1 one)) (moved 2 one)) ≡ bit_xor (bit_xor v (moved 1 v)) (moved 2 v) =
    times-sum_right v (bit_xor one (moved 1 one)) (moved 2 one) ∙ ap (λ s. bit_xor s (times v (moved 2 one))) first ∙ ap (bit_xor (bit_xor v (moved 1 v))) (times-moved v 2 h) in
    sym (times-moved v 128 h) ∙ ap (times v) around_one ∙ times-sum_right v (bit_xor (bit_xor one (moved 1 one)) (moved 2 one)) (moved 7 one) ∙ ap (λ s. bit_xor s (times v (moved 7 one))) second ∙ ap (bit_xor (bit_xor (bit_xor v (moved 1 v)) (moved 2 v))) (times-moved v 7 h)

-- where the last seven bits are 0
around_even : (v : ℕ) → v < 2 ^ 128 → v % 128 ≡ 0 → moved 128 v ≡ bit_xor (bit_xor (bit_xor v (v / 2)) (v / 4)) (v / 128)
around_even v h even =
    let one : moved 1 v ≡ v / 2 = moved-even 1 v (omega arith) in
    let two : moved 2 v ≡ v / 4 = moved-even 2 v (omega arith) in
    let seven : moved 7 v ≡ v / 128 = moved-even 7 v (omega arith) in
    around v h ∙ ap (λ s. bit_xor (bit_xor (bit_xor v s) (moved 2 v)) (moved 7 v)) one ∙ ap (λ s. bit_xor (bit_xor (bit_xor v (v / 2)) s) (moved 7 v)) two ∙ ap (bit_xor (bit_xor (bit_xor v (v / 2)) (v / 4))) seven

-- ---- 256 bits

folded_parts : (u l a b c : ℕ) → bit_xor (bit_xor (bit_xor (bit_xor u l) a) b) c ≡ bit_xor u (bit_xor (bit_xor (bit_xor l a) b) c)
folded_parts u l a b c =
    ap (λ s. bit_xor (bit_xor s b) c) (xor_assoc u l a) ∙ ap (λ s. bit_xor s c) (xor_assoc u (bit_xor l a) b) ∙ xor_assoc u (bit_xor (bit_xor l a) b) c

pub folded_is : (w : ℕ) → w % 256 ≡ 0 → folded w ≡ bit_xor (w / 2 ^ 128) (moved 128 (w % 2 ^ 128))
unfolding folded
folded_is w even =
    let l = w % 2 ^ 128 in
    folded_parts (w / 2 ^ 128) l (l / 2) (l / 4) (l / 128) ∙ ap (bit_xor (w / 2 ^ 128)) (sym (around_even l (omega arith) (omega arith)))

-- a block that was moved left over the edge, and back
pub moved_over : (m n v : ℕ) → m + n ≡ 128 → bit_xor (v * 2 ^ n / 2 ^ 128) (moved 128 (v * 2 ^ n % 2 ^ 128)) ≡ moved m v
moved_over m n v e =
    let q = v / 2 ^ m in
    let r = v % 2 ^ m in
    let all : 128 ≡ m + n = sym e in
    let turned : 128 ≡ n + m = omega arith in
    let small : v % 2 ^ m < 2 ^ m = omega (arith, pow_pos m) in
    let above : v * 2 ^ n / 2 ^ 128 ≡ q =
    ap (λ k. v * 2 ^ n / 2 ^ k) turned ∙ sym (shr-shr (v * 2 ^ n) n m) ∙ ap (λ s. s / 2 ^ m) (shl-shr v n) in
    let whole : v * 2 ^ n + v * 2 ^ n % 2 ^ n ≡ v * 2 ^ n =
    ap (λ s. s * 2 ^ n + v * 2 ^ n % 2 ^ n) (sym (shl-shr v n)) ∙ shr_split (v * 2 ^ n) n in
    let none : v * 2 ^ n % 2 ^ n ≡ 0 = omega arith in
    let rest : r * 2 ^ n + 0 ≡ r * 2 ^ n = omega arith in
    let below : v * 2 ^ n % 2 ^ 128 ≡ r * 2 ^ n =
    ap (λ k. v * 2 ^ n % 2 ^ k) all ∙ mod-pow-add (v * 2 ^ n) m n ∙ ap (λ s. s % 2 ^ m * 2 ^ n + v * 2 ^ n % 2 ^ n) (shl-shr v n) ∙ ap (λ s. r * 2 ^ n + s) none ∙ rest in
    let back : moved 128 (v * 2 ^ n % 2 ^ 128) ≡ moved m r =
    ap (moved 128) below ∙ ap (λ k. moved k (r * 2 ^ n)) all ∙ moved-add m n (r * 2 ^ n) ∙ ap (moved m) (moved-back n r) in
    let parts : bit_xor (q * 2 ^ m) r ≡ v = xor_shifted q m r small ∙ shr_split v m in
    ap (λ s. bit_xor s (moved 128 (v * 2 ^ n % 2 ^ 128))) above ∙ ap (bit_xor q) back ∙ ap (λ s. bit_xor s (moved m r)) (sym (moved-back m q)) ∙ sym (moved-sum m (q * 2 ^ m) r) ∙ ap (moved m) parts
