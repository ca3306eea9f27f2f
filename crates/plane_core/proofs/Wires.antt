-- Functions that only move bits and add them up. Two of them are the same once they are at each power
-- of 2, and that is computed.
use Rattle.std.proofs.Common.{◌≡◌, ℕ, zero, suc, ◌+◌, ◌*◌, ◌/◌, ◌%◌, ◌^◌, ◌<◌, Bool, true, false, cond, T, eqb, bit_and, bit_xor, min, refl, sym, ap, ◌∙◌, arith, eqb→eq}
use Rattle.std.specs.Int.{bit_at}
use Rattle.std.specs.Prelude.{◌==◌}
use Rattle.std.specs.Int.Bits.{xor_assoc, xor_self, xor_shifted, xor_zero_r}
use Rattle.std.proofs.Math.Nat.{zero-mul, one-mul, add-zero, pow-suc}
use Rattle.std.proofs.lemmas.Nat.{xor_comm, xor_shr, xor_mod, xor_block, shr_split, mod_below, pow_pos, div_below}
use Rattle.std.proofs.lemmas.Nat.Bits.{bit_at-lt, bit_at_and, bit_at_xor, same_from_bits}
use Rattle.cipher_spec.proofs.Computed.{holds_below, at_each}
use Rattle.plane_core.proofs.Gates.{bit_of_xor}

pub record IsLinear (f : ℕ → ℕ) : Type 0 where
  sums : (a b : ℕ) → f (bit_xor a b) ≡ bit_xor (f a) (f b)

both : (a b c d : ℕ) → a ≡ c → b ≡ d → bit_xor a b ≡ bit_xor c d
both a b c d e f = rw (e, f) refl

at_zero : (f : ℕ → ℕ) → IsLinear f → f 0 ≡ 0
at_zero f h = h.sums 0 0 ∙ xor_self (f 0)

at_top : (f g : ℕ → ℕ) → IsLinear f → IsLinear g → (n : ℕ) → f (2 ^ n) ≡ g (2 ^ n) → (t : ℕ) → t < 2 → f (t * 2 ^ n) ≡ g (t * 2 ^ n)
at_top f g h k n e zero l = rw (zero-mul (2 ^ n)) (at_zero f h ∙ sym (at_zero g k))
at_top f g h k n e (suc zero) l = rw (one-mul (2 ^ n)) e
at_top f g h k n e (suc (suc t)) l = absurd (omega arith)

same_wires : (f g : ℕ → ℕ) → IsLinear f → IsLinear g → (n : ℕ) → ((e : ℕ) → e < n → f (2 ^ e) ≡ g (2 ^ e)) → (w : ℕ) → w < 2 ^ n → f w ≡ g w
same_wires f g h k zero same w l =
    let z : w ≡ 0 = omega arith in
    ap f z ∙ at_zero f h ∙ sym (at_zero g k) ∙ sym (ap g z)
same_wires f g h k (suc n) same w l =
    let t = w / 2 ^ n in
    let r = w % 2 ^ n in
    let low : r < 2 ^ n = mod_below w (2 ^ n) (pow_pos n) in
    let high : t < 2 = div_below w (2 ^ n) 2 (pow_pos n) (omega (arith, pow-suc 2 n)) in
    let parts : w ≡ bit_xor (t * 2 ^ n) r = sym (xor_shifted t n r low ∙ shr_split w n) in
    ap f parts ∙ h.sums (t * 2 ^ n) r
    ∙ both _ _ _ _ (at_top f g h k n (same n (omega arith)) t high) (same_wires f g h k n (λ e d. same e (omega arith)) r low)
    ∙ sym (k.sums (t * 2 ^ n) r) ∙ sym (ap g parts)

-- ---- what is linear

swap_inner : (a b c d : ℕ) → bit_xor (bit_xor a b) (bit_xor c d) ≡ bit_xor (bit_xor a c) (bit_xor b d)
swap_inner a b c d =
    xor_assoc a b (bit_xor c d) ∙ ap (bit_xor a) (sym (xor_assoc b c d) ∙ ap (λ n. bit_xor n d) (xor_comm b c) ∙ xor_assoc c b d)
    ∙ sym (xor_assoc a c (bit_xor b d))

linear_self : IsLinear (λ w. w)
linear_self = record { sums = λ a b. refl }

linear_none : IsLinear (λ w. 0)
linear_none = record { sums = λ a b. refl }

linear_xor : {f g : ℕ → ℕ} → IsLinear f → IsLinear g → IsLinear (λ w. bit_xor (f w) (g w))
linear_xor {f} {g} h k = record { sums = λ a b. both _ _ _ _ (h.sums a b) (k.sums a b) ∙ swap_inner (f a) (f b) (g a) (g b) }

product_of_sum : (x y z : ℕ) → x < 2 → y < 2 → z < 2 → min ((x + y) % 2) z ≡ (min x z + min y z) % 2
product_of_sum x y zero h k l = omega arith
product_of_sum x y (suc zero) h k l = omega arith
product_of_sum x y (suc (suc z)) h k l = absurd (omega arith)

and_of_xor : (a b m : ℕ) → bit_and (bit_xor a b) m ≡ bit_xor (bit_and a m) (bit_and b m)
and_of_xor a b m = same_from_bits _ _ (λ i.
    rw (bit_at_and (bit_xor a b) m i, bit_at_xor a b i, bit_at_xor (bit_and a m) (bit_and b m) i, bit_at_and a m i, bit_at_and b m i)
    (product_of_sum _ _ _ (bit_at-lt a i) (bit_at-lt b i) (bit_at-lt m i)))

linear_and : {f : ℕ → ℕ} → IsLinear f → (m : ℕ) → IsLinear (λ w. bit_and (f w) m)
linear_and {f} h m = record { sums = λ a b. ap (λ n. bit_and n m) (h.sums a b) ∙ and_of_xor (f a) (f b) m }

linear_down : (k : ℕ) → IsLinear (λ w. w / 2 ^ k)
linear_down k = record { sums = λ a b. xor_shr a b k }

shl_of_xor : (k a b : ℕ) → bit_xor (a * 2 ^ k) (b * 2 ^ k) ≡ bit_xor a b * 2 ^ k
shl_of_xor k a b =
    rw (add-zero (a * 2 ^ k), add-zero (b * 2 ^ k), add-zero (bit_xor a b * 2 ^ k)) at (xor_block k a b 0 0 (pow_pos k) (pow_pos k))

linear_up : (k n : ℕ) → IsLinear (λ w. w * 2 ^ k % 2 ^ n)
linear_up k n = record { sums = λ a b. ap (λ w. w % 2 ^ n) (sym (shl_of_xor k a b)) ∙ xor_mod (a * 2 ^ k) (b * 2 ^ k) n }

linear_bit : {f : ℕ → ℕ} → IsLinear f → (q : ℕ) → IsLinear (λ w. bit_at (f w) q)
linear_bit {f} h q = record { sums = λ a b. ap (λ n. bit_at n q) (h.sums a b) ∙ bit_of_xor (f a) (f b) q }

linear_choice : (p : Bool) → {f g : ℕ → ℕ} → IsLinear f → IsLinear g → IsLinear (λ w. cond p (f w) (g w))
linear_choice true h k = h
linear_choice false h k = k

-- ---- bytes, bit by bit

-- bit i of what f makes is bit `u i` where i is picked, and 0 elsewhere
abbrev pub keeps : (ℕ → Bool) → (ℕ → ℕ) → (ℕ → ℕ) → Bool
keeps pick u f = holds_below (λ i. holds_below (λ e. eqb (bit_at (f (2 ^ e)) i) (cond (pick i) (bit_at (2 ^ e) (u i)) 0)) 8) 8

-- it is bit `v i` where i isn't picked, and 0 elsewhere
abbrev pub moves : (ℕ → Bool) → (ℕ → ℕ) → (ℕ → ℕ) → Bool
moves pick v g = holds_below (λ i. holds_below (λ e. eqb (bit_at (g (2 ^ e)) i) (cond (pick i) 0 (bit_at (2 ^ e) (v i)))) 8) 8

kept : (pick : ℕ → Bool) (u f : ℕ → ℕ) → IsLinear f → T (keeps pick u f) → (a i : ℕ) → a < 2 ^ 8 → i < 8
    → bit_at (f a) i ≡ cond (pick i) (bit_at a (u i)) 0
kept pick u f h computed a i l d =
    same_wires (λ w. bit_at (f w) i) (λ w. cond (pick i) (bit_at w (u i)) 0) (linear_bit h i)
    (linear_choice (pick i) (linear_bit linear_self (u i)) linear_none) 8
    (λ e s. eqb→eq _ _ (at_each (λ e. eqb (bit_at (f (2 ^ e)) i) (cond (pick i) (bit_at (2 ^ e) (u i)) 0)) 8
    (at_each (λ i. holds_below (λ e. eqb (bit_at (f (2 ^ e)) i) (cond (pick i) (bit_at (2 ^ e) (u i)) 0)) 8) 8 computed i d) e s)) a l

moved : (pick : ℕ → Bool) (v g : ℕ → ℕ) → IsLinear g → T (moves pick v g) → (b i : ℕ) → b < 2 ^ 8 → i < 8
    → bit_at (g b) i ≡ cond (pick i) 0 (bit_at b (v i))
moved pick v g h computed b i l d =
    same_wires (λ w. bit_at (g w) i) (λ w. cond (pick i) 0 (bit_at w (v i))) (linear_bit h i)
    (linear_choice (pick i) linear_none (linear_bit linear_self (v i))) 8
    (λ e s. eqb→eq _ _ (at_each (λ e. eqb (bit_at (g (2 ^ e)) i) (cond (pick i) 0 (bit_at (2 ^ e) (v i)))) 8
    (at_each (λ i. holds_below (λ e. eqb (bit_at (g (2 ^ e)) i) (cond (pick i) 0 (bit_at (2 ^ e) (v i)))) 8) 8 computed i d) e s)) b l

one_of : (p : Bool) (x y : ℕ) → bit_xor (cond p x 0) (cond p 0 y) ≡ cond p x y
one_of true x y = xor_zero_r x
one_of false x y = refl

-- the groups of two rows that are paired in one
pub paired : (pick : ℕ → Bool) (u v f g : ℕ → ℕ) → IsLinear f → IsLinear g
    → T (keeps pick u f) → T (moves pick v g) → (a b i : ℕ) → a < 2 ^ 8 → b < 2 ^ 8 → i < 8
    → bit_at (bit_xor (f a) (g b)) i ≡ cond (pick i) (bit_at a (u i)) (bit_at b (v i))
paired pick u v f g h k p q a b i l d s =
    bit_of_xor (f a) (g b) i
    ∙ both _ _ _ _ (kept pick u f h p a i l s) (moved pick v g k q b i d s)
    ∙ one_of (pick i) _ _

-- ---- groups of bits exchanged

-- i is in a group with an even number, of groups of n
abbrev pub is_even : ℕ → ℕ → Bool
is_even n i = i / n % 2 == 0

-- the bits of a mask, moved n up
abbrev pub raised : ℕ → ℕ → ℕ → ℕ
raised n m x = bit_and x m * 2 ^ n % 2 ^ 8

-- what becomes of two bytes whose bits are flipped where they differ, once those of the first are moved n down
abbrev pub evens : ℕ → ℕ → ℕ → ℕ → ℕ
evens n m a b = bit_xor a (raised n m (bit_xor (a / 2 ^ n) b))

abbrev pub odds : ℕ → ℕ → ℕ → ℕ → ℕ
odds n m a b = bit_xor b (bit_and (bit_xor (a / 2 ^ n) b) m)

-- what each of the two bytes gives to the first
abbrev pub evens_self : ℕ → ℕ → ℕ → ℕ
evens_self n m a = bit_xor a (raised n m (a / 2 ^ n))

-- what each of the two bytes gives to the second
abbrev pub odds_self : ℕ → ℕ → ℕ → ℕ
odds_self n m a = bit_and (a / 2 ^ n) m

abbrev pub odds_other : ℕ → ℕ → ℕ
odds_other m b = bit_xor b (bit_and b m)

linear_after : {f g : ℕ → ℕ} → IsLinear f → IsLinear g → IsLinear (λ w. g (f w))
linear_after {f} {g} h k = record { sums = λ a b. ap g (h.sums a b) ∙ k.sums (f a) (f b) }

pub linear_raised : (n m : ℕ) → IsLinear (raised n m)
linear_raised n m = linear_after (linear_and linear_self m) (linear_up n 8)

pub linear_evens_self : (n m : ℕ) → IsLinear (evens_self n m)
linear_evens_self n m = linear_xor linear_self (linear_after (linear_down n) (linear_raised n m))

pub linear_odds_self : (n m : ℕ) → IsLinear (odds_self n m)
linear_odds_self n m = linear_and (linear_down n) m

pub linear_odds_other : (m : ℕ) → IsLinear (odds_other m)
linear_odds_other m = linear_xor linear_self (linear_and linear_self m)

pub evens_apart : (n m a b : ℕ) → evens n m a b ≡ bit_xor (evens_self n m a) (raised n m b)
evens_apart n m a b =
    ap (bit_xor a) ((linear_raised n m).sums (a / 2 ^ n) b) ∙ sym (xor_assoc a (raised n m (a / 2 ^ n)) (raised n m b))

pub odds_apart : (n m a b : ℕ) → odds n m a b ≡ bit_xor (odds_self n m a) (odds_other m b)
odds_apart n m a b =
    let x = bit_and (a / 2 ^ n) m in
    let y = bit_and b m in
    ap (bit_xor b) (and_of_xor (a / 2 ^ n) b m)
    ∙ sym (xor_assoc b x y) ∙ ap (λ n. bit_xor n y) (xor_comm b x) ∙ xor_assoc x b y
