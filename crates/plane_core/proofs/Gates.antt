-- One bit of the sums and products of numbers and of vectors.
use Rattle.std.proofs.Common.{◌≡◌, ℕ, ◌/◌, ◌%◌, ◌^◌, ◌≤◌, List, length, get_or, bit_and, bit_xor, refl, sym, ap, ◌∙◌, inl, inr, arith}
use Rattle.std.specs.Int.{bit_at}
use Rattle.std.specs.Simd.Lanes.{zip2}
use Rattle.std.proofs.lemmas.Bool.{cases_lt}
use Rattle.std.proofs.lemmas.Nat.{xor_shr, xor_mod, and_shr, and_mod}
use Rattle.std.proofs.lemmas.List.{get_or_past}
use Rattle.std.proofs.lemmas.Simd.{get_or-zip2, length-zip2}

pub bit_of_xor : (a b i : ℕ) → bit_at (bit_xor a b) i ≡ bit_xor (bit_at a i) (bit_at b i)
bit_of_xor a b i = ap (λ n. n % 2) (xor_shr a b i) ∙ xor_mod (a / 2 ^ i) (b / 2 ^ i) 1

bit_of_and : (a b i : ℕ) → bit_at (bit_and a b) i ≡ bit_and (bit_at a i) (bit_at b i)
bit_of_and a b i = ap (λ n. n % 2) (and_shr a b i) ∙ and_mod (a / 2 ^ i) (b / 2 ^ i) 1

-- lane by lane, and past the end, where a lane reads as 0
pub lane_of : {n : ℕ} → (f : ℕ → ℕ → ℕ) → f 0 0 ≡ 0 → (x y : List ℕ) → length x ≡ n → length y ≡ n → (j : ℕ)
    → get_or (zip2 f x y) j 0 ≡ f (get_or x j 0) (get_or y j 0)
lane_of {n} f none x y h l j = elim (cases_lt j n) [
  | inl s ↦ get_or-zip2 f x y j 0 0 0 (omega arith) (omega arith)
  | inr g ↦
      let e : length (zip2 f x y) ≤ j = omega (arith, length-zip2 f x y (h ∙ sym l)) in
      get_or_past (zip2 f x y) j 0 e ∙ rw (get_or_past x j 0 (omega arith), get_or_past y j 0 (omega arith)) (sym none)
]

pub lanes_xor : {n : ℕ} → (x y : List ℕ) → length x ≡ n → length y ≡ n → (j b : ℕ)
    → bit_at (get_or (zip2 bit_xor x y) j 0) b ≡ bit_xor (bit_at (get_or x j 0) b) (bit_at (get_or y j 0) b)
lanes_xor x y h l j b = ap (λ n. bit_at n b) (lane_of bit_xor refl x y h l j) ∙ bit_of_xor (get_or x j 0) (get_or y j 0) b

pub lanes_and : {n : ℕ} → (x y : List ℕ) → length x ≡ n → length y ≡ n → (j b : ℕ)
    → bit_at (get_or (zip2 bit_and x y) j 0) b ≡ bit_and (bit_at (get_or x j 0) b) (bit_at (get_or y j 0) b)
lanes_and x y h l j b = ap (λ n. bit_at n b) (lane_of bit_and refl x y h l j) ∙ bit_of_and (get_or x j 0) (get_or y j 0) b
