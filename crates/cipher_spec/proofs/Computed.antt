-- What holds of each number below some n because it was computed there.
use Rattle.std.proofs.Common.{◌≡◌, ℕ, zero, suc, ◌-◌, ◌<◌, Bool, true, ◌&&◌, T, eqb, subst, inl, inr, arith, eq-zero-or-pos, eqb→eq}
use lib.Ieee.Fits.{and_l, and_r}

-- p holds at each number below n
abbrev pub holds_below : (ℕ → Bool) → ℕ → Bool
holds_below p zero = true
holds_below p (suc n) = p n && holds_below p n

pub at_each : (p : ℕ → Bool) (n : ℕ) → T (holds_below p n) → (i : ℕ) → i < n → T (p i)
at_each p zero h i l = absurd (omega arith)
at_each p (suc n) h i l =
    elim (eq-zero-or-pos (n - i)) [
      | inl z ↦ let e : n ≡ i = omega arith in subst (λ x. T (p x)) e (and_l _ _ h)
      | inr g ↦ at_each p n (and_r (p n) _ h) i (omega arith)
    ]

-- two functions that compute to the same numbers below n are the same there
pub same_below : (f g : ℕ → ℕ) (n : ℕ) → T (holds_below (λ i. eqb (f i) (g i)) n) → (i : ℕ) → i < n → f i ≡ g i
same_below f g n h i l = eqb→eq _ _ (at_each (λ i. eqb (f i) (g i)) n h i l)
