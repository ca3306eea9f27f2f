-- The first element of a list that passes a test.
use Rattle.std.proofs.Common.{◌≡◌, Bool, true, false, cond, List, [], ◌∷◌, Some, refl, sym, subst}
use Rattle.std.specs.Prelude.{Contains, find}
use Rattle.context_codec.proofs.Members.{Contains-head, Contains-tail}

-- it is listed, and passes the test
pub record IsPassing {X : Type 0} (test : X → Bool) (xs : List X) (x : X) : Type 0 where
  pub listed : Contains xs x
  pub passing : test x ≡ true

pub passing_from_found : {X : Type 0} (test : X → Bool) (xs : List X) (x : X) → find test xs ≡ Some x → IsPassing test xs x
passing_from_found test [] x e = absurd cc
passing_from_found test (y ∷ xs) x e = by_test (test y) refl e (passing_from_found test xs x)
  where
    by_test : (b : Bool) → b ≡ test y → cond b (Some y) (find test xs) ≡ Some x → (find test xs ≡ Some x → IsPassing test xs x) → IsPassing test (y ∷ xs) x
    by_test true is e' rest =
        let same : y ≡ x = cc in
        subst (λ z. IsPassing test (y ∷ xs) z) same (record { listed = Contains-head y xs; passing = sym is })
    by_test false is e' rest = let later = rest e' in record { listed = Contains-tail y xs x later.listed; passing = later.passing }
