-- What a list contains, and what tests find in it.
use Rattle.std.proofs.Common.{◌≡◌, ◌⊎◌, inl, inr, ℕ, zero, suc, ◌+◌, ◌<◌, Bool, true, false, ◌||◌, cond, List, [], ◌∷◌, length, get_or, drop, Some, None, refl, sym, subst, ◌∙◌, arith}
use Rattle.std.specs.Prelude.{Contains, filter, find}
use Rattle.std.specs.List.{list_any}
use Rattle.std.proofs.lemmas.Bool.{or_from}
use Rattle.std.proofs.lemmas.List.{at_drop_more}

pub Contains-head : {X : Type 0} (x : X) (xs : List X) → Contains (x ∷ xs) x
Contains-head x xs = (0, omega arith, refl)

pub Contains-tail : {X : Type 0} (y : X) (xs : List X) (x : X) → Contains xs x → Contains (y ∷ xs) x
Contains-tail y xs x h = (suc h.0, omega (arith, h.1), h.2)

pub Contains-cases : {X : Type 0} (y : X) (xs : List X) (x : X) → Contains (y ∷ xs) x → (y ≡ x) ⊎ Contains xs x
Contains-cases y xs x (zero, lt, is) = inl is
Contains-cases y xs x (suc k, lt, is) = inr (k, omega arith, is)

pub Contains-nil : {X : Type 0} (x : X) → Contains [] x → ⊥
Contains-nil x h = omega (arith, h.1)

-- ---- filters

abbrev kept : {X : Type 0} → Bool → X → List X → List X
kept b y xs = cond b (y ∷ xs) xs

kept_back : {X : Type 0} (b : Bool) (y : X) (xs : List X) (x : X) → Contains (kept b y xs) x → ((b ≡ true) × (y ≡ x)) ⊎ Contains xs x
kept_back true y xs x h = elim (Contains-cases y xs x h) [ inl is ↦ inl (refl, is) | inr later ↦ inr later ]
kept_back false y xs x h = inr h

kept_tail : {X : Type 0} (b : Bool) (y : X) (xs : List X) (x : X) → Contains xs x → Contains (kept b y xs) x
kept_tail true y xs x h = Contains-tail y xs x h
kept_tail false y xs x h = h

pub Contains-filter : {X : Type 0} (test : X → Bool) (xs : List X) (x : X) → Contains xs x → test x ≡ true → Contains (filter test xs) x
Contains-filter test [] x h holds = h
Contains-filter test (y ∷ xs) x h holds =
    elim (Contains-cases y xs x h) [
      | inl is ↦ let here : test y ≡ true = subst (λ z. test z ≡ true) (sym is) holds in rw here (subst (λ z. Contains (y ∷ filter test xs) z) is (Contains-head y (filter test xs)))
      | inr later ↦ kept_tail (test y) y (filter test xs) x (Contains-filter test xs x later holds)
    ]

pub Contains-filter_back : {X : Type 0} (test : X → Bool) (xs : List X) (x : X) → Contains (filter test xs) x → Contains xs x × (test x ≡ true)
Contains-filter_back test [] x h = absurd (Contains-nil x h)
Contains-filter_back test (y ∷ xs) x h =
    elim (kept_back (test y) y (filter test xs) x h) [
      | inl here ↦ (subst (λ z. Contains (y ∷ xs) z) here.1 (Contains-head y xs), subst (λ z. test z ≡ true) here.1 here.0)
      | inr later ↦ let there = Contains-filter_back test xs x later in (Contains-tail y xs x there.0, there.1)
    ]

-- ---- tests

pub list_any-from : {X : Type 0} (test : X → Bool) (xs : List X) (x : X) → Contains xs x → test x ≡ true → list_any test xs ≡ true
list_any-from test [] x h holds = absurd (Contains-nil x h)
list_any-from test (y ∷ xs) x h holds =
    elim (Contains-cases y xs x h) [
      | inl is ↦ let here : test y ≡ true = subst (λ z. test z ≡ true) (sym is) holds in rw here refl
      | inr later ↦ rw (list_any-from test xs x later holds) (or_true (test y))
    ]
  where
    or_true : (b : Bool) → (b || true) ≡ true
    or_true true = refl
    or_true false = refl

-- some element passes the test
pub record Passes {X : Type 0} (test : X → Bool) (xs : List X) : Type 0 where
  pub at : X
  pub listed : Contains xs at
  pub passing : test at ≡ true

passes_by : {X : Type 0} (test : X → Bool) (y : X) (xs : List X) (b : Bool) → b ≡ test y → (b || list_any test xs) ≡ true → (list_any test xs ≡ true → Passes test xs) → Passes test (y ∷ xs)
passes_by test y xs true is e rest = record { at = y; listed = Contains-head y xs; passing = sym is }
passes_by test y xs false is e rest =
    let later = rest e in
    record { at = later.at; listed = Contains-tail y xs later.at later.listed; passing = later.passing }

pub passes_from : {X : Type 0} (test : X → Bool) (xs : List X) → list_any test xs ≡ true → Passes test xs
passes_from test [] e = absurd cc
passes_from test (y ∷ xs) e = passes_by test y xs (test y) refl e (passes_from test xs)

pub none_passes : {X : Type 0} (test : X → Bool) (xs : List X) → ((x : X) → Contains xs x → test x ≡ false) → list_any test xs ≡ false
none_passes test [] h = refl
none_passes test (y ∷ xs) h = or_from (test y) (list_any test xs) (h y (Contains-head y xs)) (none_passes test xs (λ x later. h x (Contains-tail y xs x later)))

pub none_found : {X : Type 0} (test : X → Bool) (xs : List X) → ((x : X) → Contains xs x → test x ≡ false) → find test xs ≡ None
none_found test [] h = refl
none_found test (y ∷ xs) h = rw (h y (Contains-head y xs)) (none_found test xs (λ x later. h x (Contains-tail y xs x later)))

-- the element at the index passes, or fails
pub find_here : {X : Type 0} (test : X → Bool) (xs : List X) (i : ℕ) (x : X) → i < length xs → x ≡ get_or xs i x → test x ≡ true → find test (drop i xs) ≡ Some x
find_here test xs i x lt is holds =
    let shown : cond (test x) (Some x) (find test (drop (i + 1) xs)) ≡ Some x = rw holds refl in
    at_drop_more (find test) xs i x lt ∙ subst (λ y. cond (test y) (Some y) (find test (drop (i + 1) xs)) ≡ Some x) is shown

pub find_later : {X : Type 0} (test : X → Bool) (xs : List X) (i : ℕ) (x : X) → i < length xs → x ≡ get_or xs i x → test x ≡ false → find test (drop i xs) ≡ find test (drop (i + 1) xs)
find_later test xs i x lt is fails =
    let shown : cond (test x) (Some x) (find test (drop (i + 1) xs)) ≡ find test (drop (i + 1) xs) = rw fails refl in
    at_drop_more (find test) xs i x lt ∙ subst (λ y. cond (test y) (Some y) (find test (drop (i + 1) xs)) ≡ find test (drop (i + 1) xs)) is shown
