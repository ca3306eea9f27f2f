-- In a list that ascends by a key, the first that passes a test has the least key of those that pass it.
use Rattle.std.proofs.Common.{◌≡◌, ◌↔◌, inl, inr, ℕ, suc, Bool, true, false, cond, List, [], ◌∷◌, length, get_or, Option, Some, None, refl, sym, ap, subst, ◌∙◌, suc-add, arith}
use Rattle.std.specs.Prelude.{Contains, find, option_map}
use Rattle.std.specs.List.{AllAdjacentBelow}
use Rattle.std.specs.declared.cmp.Ordering.TheVariants.{Less}
use Rattle.std.proofs.lemmas.Cmp.{nat_list_cmp_total}
use Rattle.context_codec.specs.Context.{KeyValue, IsAscending}
use Rattle.context_codec.specs.KeySet.{AreAscendingKeys}
use Rattle.context_codec.specs.Parts.{holds}
use Rattle.context_codec.proofs.Keys.{key_cmp, less_other}
use Rattle.context_codec.proofs.Members.{Contains-head, Contains-tail, Contains-cases, Contains-nil}
use Rattle.context_codec.proofs.Parts.{holds_own, holds_pair}
use Rattle.context_codec.specs.Laws.{IsLeastKey}

-- ---- lists that ascend by a key

-- each has a key above this one
abbrev pub AllAboveBy : {X : Type 0} → (X → List ℕ) → List ℕ → List X → Type 0
AllAboveBy key low [] = Unit {0}
AllAboveBy key low (x ∷ xs) = (key_cmp low (key x) ≡ Less) × AllAboveBy key low xs

-- each has a key below all that follow
abbrev pub Rises : {X : Type 0} → (X → List ℕ) → List X → Type 0
Rises key [] = Unit {0}
Rises key (x ∷ xs) = AllAboveBy key (key x) xs × Rises key xs

lower : {X : Type 0} (key : X → List ℕ) (a b : List ℕ) (xs : List X) → key_cmp a b ≡ Less → AllAboveBy key b xs → AllAboveBy key a xs
lower key a b [] less h = tt
lower key a b (x ∷ xs) less h = (nat_list_cmp_total.trans a b (key x) less h.0, lower key a b xs less h.1)

pub rises_from : {X : Type 0} (key : X → List ℕ) (xs : List X) → AllAdjacentBelow (λ x y. key_cmp (key x) (key y) ≡ Less) xs (length xs) → Rises key xs
rises_from key [] h = tt
rises_from key (x ∷ []) h = (tt, tt)
rises_from key (x ∷ y ∷ xs) h =
    let first : key_cmp (key x) (key y) ≡ Less = h 0 x (omega arith) in
    let rest = rises_from key (y ∷ xs) (λ k d lt. subst (λ (j : ℕ). key_cmp (key (get_or (y ∷ xs) k d)) (key (get_or (x ∷ y ∷ xs) j d)) ≡ Less) (suc-add k 1) (h (suc k) d (omega arith))) in
    ((first, lower key (key x) (key y) xs first rest.0), rest)

above_by : {X : Type 0} (key : X → List ℕ) (low : List ℕ) (xs : List X) (x : X) → AllAboveBy key low xs → Contains xs x → key_cmp low (key x) ≡ Less
above_by key low [] x h listed = absurd (Contains-nil x listed)
above_by key low (y ∷ xs) x h listed =
    elim (Contains-cases y xs x listed) [
      | inl is ↦ subst (λ z. key_cmp low (key z) ≡ Less) is h.0
      | inr later ↦ above_by key low xs x h.1 later
    ]

not_both : (a b : List ℕ) → key_cmp a b ≡ Less → key_cmp b a ≡ Less → ⊥
not_both a b less more = less_other a a (nat_list_cmp_total.trans a b a less more) refl

-- ---- the first that passes a test

-- It is listed and passes the test, and none that passes it has a lower key.
pub record IsFirst {X : Type 0} (key : X → List ℕ) (test : X → Bool) (xs : List X) (x : X) : Type 0 where
  pub listed : Contains xs x
  pub passing : test x ≡ true
  pub least : (y : X) → Contains xs y → test y ≡ true → key_cmp (key y) (key x) ≡ Less → ⊥

found_step : {X : Type 0} (key : X → List ℕ) (test : X → Bool) (z : X) (xs : List X) (x : X) (b : Bool) → b ≡ test z → AllAboveBy key (key z) xs → cond b (Some z) (find test xs) ≡ Some x
    → (find test xs ≡ Some x → IsFirst key test xs x) → IsFirst key test (z ∷ xs) x
found_step key test z xs x true is above e rest =
    let same : z ≡ x = cc in
    subst (λ y. IsFirst key test (z ∷ xs) y) same
    (record {
      listed = Contains-head z xs;
      passing = sym is;
      least = λ y there passes less.
          elim (Contains-cases z xs y there) [
            | inl own ↦ less_other (key y) (key z) less (ap key (sym own))
            | inr later ↦ not_both (key z) (key y) (above_by key (key z) xs y above later) less
          ];
    })
found_step key test z xs x false is above e rest =
    let first = rest e in
    record {
      listed = Contains-tail z xs x first.listed;
      passing = first.passing;
      least = λ y there passes less.
          elim (Contains-cases z xs y there) [
            | inl own ↦ let passes_z : test z ≡ true = subst (λ v. test v ≡ true) (sym own) passes in cc
            | inr later ↦ first.least y later passes less
          ];
    }

pub first_from_found : {X : Type 0} (key : X → List ℕ) (test : X → Bool) (xs : List X) (x : X) → Rises key xs → find test xs ≡ Some x → IsFirst key test xs x
first_from_found key test [] x up e = absurd cc
first_from_found key test (z ∷ xs) x up e = found_step key test z xs x (test z) refl up.0 e (first_from_found key test xs x up.1)

find_step : {X : Type 0} (key : X → List ℕ) (test : X → Bool) (z : X) (xs : List X) (x : X) (b : Bool) → b ≡ test z → AllAboveBy key (key z) xs → IsFirst key test (z ∷ xs) x
    → (IsFirst key test xs x → find test xs ≡ Some x) → cond b (Some z) (find test xs) ≡ Some x
find_step key test z xs x true is above first rest =
    elim (Contains-cases z xs x first.listed) [
      | inl own ↦ ap Some own
      | inr later ↦ absurd (first.least z (Contains-head z xs) (sym is) (above_by key (key z) xs x above later))
    ]
find_step key test z xs x false is above first rest =
    elim (Contains-cases z xs x first.listed) [
      | inl own ↦ absurd (let passes : test z ≡ true = subst (λ v. test v ≡ true) (sym own) first.passing in cc)
      | inr later ↦ rest (record { listed = later; passing = first.passing; least = λ y there. first.least y (Contains-tail z xs y there) })
    ]

pub found_from_first : {X : Type 0} (key : X → List ℕ) (test : X → Bool) (xs : List X) (x : X) → Rises key xs → IsFirst key test xs x → find test xs ≡ Some x
found_from_first key test [] x up first = absurd (Contains-nil x first.listed)
found_from_first key test (z ∷ xs) x up first = find_step key test z xs x (test z) refl up.0 first (found_from_first key test xs x up.1)

-- ---- the least key

-- of a set of keys
pub least_of_keys : (test : List ℕ → Bool) (keys : List (List ℕ)) → AreAscendingKeys keys → (key : List ℕ)
    → (find test keys ≡ Some key) ↔ IsLeastKey (λ k. Contains keys k × (test k ≡ true)) key
least_of_keys test keys up key =
    let rises = rises_from (λ k. k) keys up in (
      λ e.
          let first = first_from_found (λ k. k) test keys key rises e in
          record { fits = (first.listed, first.passing); least = λ other fits less. first.least other fits.0 fits.1 less },
      λ h.
          found_from_first (λ k. k) test keys key rises
          (record { listed = h.fits.0; passing = h.fits.1; least = λ y there passes less. h.least y (there, passes) less }),
    )

pair_found : (test : List ℕ → Bool) (pairs : List KeyValue) → IsAscending pairs → (key : List ℕ) (found : Option KeyValue) → find (λ p. test p.0) pairs ≡ found
    → option_map (λ p. p.0) found ≡ Some key → IsLeastKey (λ k. (holds pairs k ≡ true) × (test k ≡ true)) key
pair_found test pairs up key None is e = absurd cc
pair_found test pairs up key (Some p) is e =
    let first = first_from_found (λ (p : KeyValue). p.0) (λ p. test p.0) pairs p (rises_from (λ (p : KeyValue). p.0) pairs up) is in
    let same : p.0 ≡ key = cc in
    subst (λ (k : List ℕ). IsLeastKey (λ k. (holds pairs k ≡ true) × (test k ≡ true)) k) same
    (record {
      fits = (holds_own pairs p first.listed, first.passing);
      least = λ other fits less.
          let held = holds_pair pairs other fits.0 in
          first.least held.pair held.listed (subst (λ (k : List ℕ). test k ≡ true) held.same fits.1)
          (subst (λ (k : List ℕ). key_cmp k p.0 ≡ Less) held.same less);
    })

-- of pairs
pub least_of_pairs : (test : List ℕ → Bool) (pairs : List KeyValue) → IsAscending pairs → (key : List ℕ)
    → (option_map (λ p. p.0) (find (λ p. test p.0) pairs) ≡ Some key) ↔ IsLeastKey (λ k. (holds pairs k ≡ true) × (test k ≡ true)) key
least_of_pairs test pairs up key = (
  λ e. pair_found test pairs up key (find (λ p. test p.0) pairs) refl e,
  λ h.
      let held = holds_pair pairs key h.fits.0 in
      let found : find (λ p. test p.0) pairs ≡ Some held.pair =
      found_from_first (λ (p : KeyValue). p.0) (λ p. test p.0) pairs held.pair (rises_from (λ (p : KeyValue). p.0) pairs up)
      (record {
        listed = held.listed;
        passing = subst (λ (k : List ℕ). test k ≡ true) held.same h.fits.1;
        least = λ y there passes less. h.least y.0 (holds_own pairs y there, passes) (subst (λ (k : List ℕ). key_cmp y.0 k ≡ Less) (sym held.same) less);
      }) in
      ap (option_map (λ (p : KeyValue). p.0)) found ∙ ap Some (sym held.same),
)
