-- Keys that a context doesn't have.
use Rattle.std.proofs.Common.{◌≡◌, ℕ, Bool, true, false, cond, List, [], ◌∷◌, Some, None, ◌⊎◌, inl, inr, refl, sym, subst}
use Rattle.std.specs.Prelude.{find, not, Contains, Result, Ok, Err, IfOk}
use Rattle.context_codec.specs.Context.{KeyValue}
use Rattle.context_codec.specs.Parts.{holds}
use Rattle.context_codec.proofs.Members.{Contains-cases, Contains-nil}
use Rattle.keyring_trait.specs.Laws.{AreGiven}

-- what is found to be absent isn't held
pub found_absent : (pairs : List KeyValue) (keys : List (List ℕ)) (key : List ℕ) → find (λ k. not (holds pairs k)) keys ≡ Some key → holds pairs key ≡ false
found_absent pairs [] key e = absurd cc
found_absent pairs (k ∷ keys) key e = by_test (holds pairs k) refl e (found_absent pairs keys key)
  where
    by_test : (b : Bool) → b ≡ holds pairs k → cond (not b) (Some k) (find (λ j. not (holds pairs j)) keys) ≡ Some key
        → (find (λ j. not (holds pairs j)) keys ≡ Some key → holds pairs key ≡ false) → holds pairs key ≡ false
    by_test true is e' rest = rest e'
    by_test false is e' rest = let same : k ≡ key = cc in cc

-- where none is found to be absent, all are held
pub none_absent : (pairs : List KeyValue) (keys : List (List ℕ)) → find (λ k. not (holds pairs k)) keys ≡ None → AreGiven keys pairs
none_absent pairs [] e key listed = absurd (Contains-nil key listed)
none_absent pairs (k ∷ keys) e key listed = by_test (holds pairs k) refl e (Contains-cases k keys key listed) (none_absent pairs keys)
  where
    by_test : (b : Bool) → b ≡ holds pairs k → cond (not b) (Some k) (find (λ j. not (holds pairs j)) keys) ≡ None → (k ≡ key) ⊎ Contains keys key
        → (find (λ j. not (holds pairs j)) keys ≡ None → AreGiven keys pairs) → holds pairs key ≡ true
    by_test true is e' (inl same) rest = sym (subst (λ (j : List ℕ). true ≡ holds pairs j) same is)
    by_test true is e' (inr later) rest = rest e' key later
    by_test false is e' place rest = absurd cc

pub all_given : {T E : Type 0} (given : List KeyValue) (keys : List (List ℕ)) (result : Result T E) → find (λ k. not (holds given k)) keys ≡ None → IfOk result (λ _. AreGiven keys given)
all_given given keys (Ok found) e = none_absent given keys e
all_given given keys (Err error) e = tt
