-- Sums of blocks, one for each number below a bound.
use Rattle.std.proofs.Common.{◌≡◌, ℕ, zero, suc, ◌+◌, ◌*◌, ◌^◌, ◌<◌, bit_xor, refl, sym, ap, ◌∙◌, arith}
use Rattle.std.specs.Int.Bits.{xor_assoc, xor_zero_r}
use Rattle.std.proofs.Math.Nat.{zero-mul}
use Rattle.std.proofs.lemmas.Nat.{pow_pos, xor_block, xor_comm, xor_lt}
use Rattle.ghash_core.proofs.Linear.{xor_pairs}

-- the sum of f 0, .., f (n - 1)
pub xsum : ℕ → (ℕ → ℕ) → ℕ
xsum zero f = 0
xsum (suc n) f = bit_xor (xsum n f) (f n)

pub xsum-none : (f : ℕ → ℕ) → xsum 0 f ≡ 0
unfolding xsum
xsum-none f = refl

pub xsum-more : (n : ℕ) (f : ℕ → ℕ) → xsum (n + 1) f ≡ bit_xor (xsum n f) (f n)
unfolding xsum
xsum-more n f =
    let e : n + 1 ≡ suc n = omega arith in
    ap (λ k. xsum k f) e

-- the same number of equal blocks
pub xsum-same : (n : ℕ) (f g : ℕ → ℕ) → ((i : ℕ) → i < n → f i ≡ g i) → xsum n f ≡ xsum n g
unfolding xsum
xsum-same zero f g same = refl
xsum-same (suc n) f g same =
    ap (λ s. bit_xor s (f n)) (xsum-same n f g (λ i h. same i (omega arith))) ∙ ap (bit_xor (xsum n g)) (same n (omega arith))

xsum-nothing : (n : ℕ) → xsum n (λ i. 0) ≡ 0
unfolding xsum
xsum-nothing zero = refl
xsum-nothing (suc n) = xor_zero_r (xsum n (λ i. 0)) ∙ xsum-nothing n

-- a sum of sums of two
pub xsum-xor : (n : ℕ) (f g : ℕ → ℕ) → xsum n (λ i. bit_xor (f i) (g i)) ≡ bit_xor (xsum n f) (xsum n g)
unfolding xsum
xsum-xor zero f g = refl
xsum-xor (suc n) f g =
    ap (λ s. bit_xor s (bit_xor (f n) (g n))) (xsum-xor n f g) ∙ xor_pairs (xsum n f) (xsum n g) (f n) (g n)

-- a function that keeps sums
pub xsum-each : (g : ℕ → ℕ) → g 0 ≡ 0 → ((a b : ℕ) → g (bit_xor a b) ≡ bit_xor (g a) (g b)) → (n : ℕ) (f : ℕ → ℕ) → g (xsum n f) ≡ xsum n (λ i. g (f i))
unfolding xsum
xsum-each g none adds zero f = none
xsum-each g none adds (suc n) f =
    adds (xsum n f) (f n) ∙ ap (λ s. bit_xor s (g (f n))) (xsum-each g none adds n f)

-- two sums in either order
pub xsum-exchange : (n m : ℕ) (f : ℕ → ℕ → ℕ) → xsum n (λ i. xsum m (λ k. f i k)) ≡ xsum m (λ k. xsum n (λ i. f i k))
unfolding xsum
xsum-exchange zero m f = sym (xsum-nothing m)
xsum-exchange (suc n) m f =
    ap (λ s. bit_xor s (xsum m (λ k. f n k))) (xsum-exchange n m f) ∙ sym (xsum-xor m (λ k. xsum n (λ i. f i k)) (λ k. f n k))

-- a sum in two parts
pub xsum-append : (n m : ℕ) (f : ℕ → ℕ) → xsum (n + m) f ≡ bit_xor (xsum n f) (xsum m (λ i. f (n + i)))
unfolding xsum
xsum-append n zero f =
    let e : n + 0 ≡ n = omega arith in
    ap (λ k. xsum k f) e ∙ sym (xor_zero_r (xsum n f))
xsum-append n (suc m) f =
    let e : n + suc m ≡ suc (n + m) = omega arith in
    ap (λ k. xsum k f) e ∙ ap (λ s. bit_xor s (f (n + m))) (xsum-append n m f) ∙ xor_assoc (xsum n f) (xsum m (λ i. f (n + i))) (f (n + m))

-- the first block of a sum
pub xsum-front : (n : ℕ) (f : ℕ → ℕ) → xsum (suc n) f ≡ bit_xor (f 0) (xsum n (λ i. f (suc i)))
unfolding xsum
xsum-front zero f = xor_comm 0 (f 0)
xsum-front (suc n) f =
    ap (λ s. bit_xor s (f (suc n))) (xsum-front n f) ∙ xor_assoc (f 0) (xsum n (λ i. f (suc i))) (f (suc n))

-- a sum from its end
pub xsum-reversed : (n : ℕ) (f g : ℕ → ℕ) → ((i j : ℕ) → i + j + 1 ≡ n → f i ≡ g j) → xsum n f ≡ xsum n g
unfolding xsum
xsum-reversed zero f g same = refl
xsum-reversed (suc n) f g same =
    ap (λ s. bit_xor s (f n)) (xsum-reversed n f (λ j. g (suc j)) (λ i j e. same i (suc j) (omega arith))) ∙ ap (bit_xor (xsum n (λ j. g (suc j)))) (same n 0 (omega arith)) ∙ xor_comm (xsum n (λ j. g (suc j))) (g 0) ∙ sym (xsum-front n g)

pub xsum-lt : (k n : ℕ) (f : ℕ → ℕ) → ((i : ℕ) → i < n → f i < 2 ^ k) → xsum n f < 2 ^ k
unfolding xsum
xsum-lt k zero f small = pow_pos k
xsum-lt k (suc n) f small =
    xor_lt k (xsum n f) (f n) (xsum-lt k n f (λ i h. small i (omega arith))) (small n (omega arith))

-- a sum, moved
pub xor-shl : (a b m : ℕ) → bit_xor a b * 2 ^ m ≡ bit_xor (a * 2 ^ m) (b * 2 ^ m)
xor-shl a b m =
    let left : a * 2 ^ m + 0 ≡ a * 2 ^ m = omega arith in
    let right : b * 2 ^ m + 0 ≡ b * 2 ^ m = omega arith in
    let both : bit_xor a b * 2 ^ m + bit_xor 0 0 ≡ bit_xor a b * 2 ^ m = omega arith in
    sym both ∙ sym (xor_block m a b 0 0 (pow_pos m) (pow_pos m)) ∙ ap (λ s. bit_xor s (b * 2 ^ m + 0)) left ∙ ap (bit_xor (a * 2 ^ m)) right

pub xsum-shl : (n m : ℕ) (f : ℕ → ℕ) → xsum n f * 2 ^ m ≡ xsum n (λ i. f i * 2 ^ m)
xsum-shl n m f = xsum-each (λ a. a * 2 ^ m) (zero-mul (2 ^ m)) (λ a b. xor-shl a b m) n f
