-- Places further on, and fewer bytes.
use Rattle.std.proofs.Common.{◌≡◌, ℕ, ◌+◌, ◌-◌, ◌≤◌, List, [], length, take, drop, refl, sym, ap, ◌∙◌, arith, inl, inr}
use Rattle.std.proofs.lemmas.Bool.{cases_lt}
use Rattle.std.proofs.lemmas.List.{drop-take, drop-drop, drop_all, length-take}
use Rattle.esdk_fields.specs.Place.{Place, past, cut}

-- no bytes are taken of any
take_none : (n : ℕ) (l : List ℕ) → n ≡ 0 → take n l ≡ []
take_none n l e = rw e refl

drop_cut : (m k : ℕ) (l : List ℕ) → drop m (take k l) ≡ take (k - m) (drop m l)
drop_cut m k l =
    elim (cases_lt k m) [
      | inl short ↦ drop_all m (take k l) (omega (arith, length-take k l)) ∙ sym (take_none (k - m) (drop m l) (omega arith))
      | inr long ↦ let e : k ≡ m + (k - m) = omega arith in ap (λ (n : ℕ). drop m (take n l)) e ∙ drop-take m (k - m) l
    ]

pub past_cut : (m n : ℕ) (p : Place) → past m (cut n p) ≡ cut n (past m p)
past_cut m n p =
    let e : (n - p.at) - m ≡ n - (p.at + m) = omega arith in
    ap (λ (left : List ℕ). record { at = p.at + m; left = left }) (drop_cut m (n - p.at) p.left ∙ ap (λ (k : ℕ). take k (drop m p.left)) e)

pub past_past : (m n : ℕ) (p : Place) → past m (past n p) ≡ past (n + m) p
past_past m n p =
    let e : (p.at + n) + m ≡ p.at + (n + m) = omega arith in
    ap (λ (at : ℕ). record { at = at; left = drop m (drop n p.left) }) e ∙ ap (λ (left : List ℕ). record { at = p.at + (n + m); left = left }) (drop-drop m n p.left)

pub past_none : (p : Place) → past 0 p ≡ p
past_none p = let e : p.at + 0 ≡ p.at = omega arith in ap (λ (at : ℕ). record { at = at; left = p.left }) e

pub length-cut : (n : ℕ) (p : Place) → length (cut n p).left ≤ n - p.at
length-cut n p = omega (arith, length-take (n - p.at) p.left)
