-- Lists made from numbers in a row.
use Rattle.std.proofs.Common.{◌≡◌, ℕ, zero, suc, ◌+◌, ◌<◌, ◌≤◌, List, [], ◌∷◌, ◌++◌, refl, sym, ap, ◌∙◌, arith}
use Rattle.std.specs.List.{flat_map, range_with_len}
use Rattle.std.proofs.lemmas.List.{append-nil}
use Rattle.std.proofs.lemmas.List.Concat.{flat_map-cons}
use Rattle.std.proofs.lemmas.Grind.{flat_map-append}

pub range_add : (a m n : ℕ) → range_with_len a (m + n) ≡ range_with_len a m ++ range_with_len (a + m) n
range_add a zero n = let e : 0 + n ≡ n = omega arith in let f : a + 0 ≡ a = omega arith in rw (e, f) refl
range_add a (suc m) n =
    let e : suc m + n ≡ suc (m + n) = omega arith in
    let f : (a + 1) + m ≡ a + suc m = omega arith in
    ap (range_with_len a) e ∙ ap (λ (l : List ℕ). a ∷ l) (range_add (a + 1) m n) ∙ ap (λ (b : ℕ). a ∷ range_with_len (a + 1) m ++ range_with_len b n) f

-- functions that agree on a range give one list
pub flat_map_same : {X : Type 0} (f g : ℕ → List X) (a n : ℕ) → ((k : ℕ) → a ≤ k → k < a + n → f k ≡ g k) → flat_map f (range_with_len a n) ≡ flat_map g (range_with_len a n)
flat_map_same f g a zero same = refl
flat_map_same f g a (suc n) same =
    flat_map-cons f a (range_with_len (a + 1) n)
    ∙ ap (λ l. l ++ flat_map f (range_with_len (a + 1) n)) (same a (omega arith) (omega arith))
    ∙ ap (λ l. g a ++ l) (flat_map_same f g (a + 1) n (λ k low high. same k (omega arith) (omega arith)))
    ∙ sym (flat_map-cons g a (range_with_len (a + 1) n))

-- a range in two parts
pub flat_map_add : {X : Type 0} (f : ℕ → List X) (m n : ℕ) → flat_map f (range_with_len 0 (m + n)) ≡ flat_map f (range_with_len 0 m) ++ flat_map f (range_with_len m n)
flat_map_add f m n =
    let e : 0 + m ≡ m = omega arith in
    ap (flat_map f) (range_add 0 m n) ∙ flat_map-append f (range_with_len 0 m) (range_with_len (0 + m) n) ∙ ap (λ (a : ℕ). flat_map f (range_with_len 0 m) ++ flat_map f (range_with_len a n)) e

-- one number more
pub flat_map_one : {X : Type 0} (f : ℕ → List X) (n : ℕ) → flat_map f (range_with_len 0 (n + 1)) ≡ flat_map f (range_with_len 0 n) ++ f n
flat_map_one f n = flat_map_add f n 1 ∙ ap (λ l. flat_map f (range_with_len 0 n) ++ l) (flat_map-cons f n [] ∙ append-nil (f n))
