-- In a list that ascends by a key, the first that passes a test has the least key of those that pass it.
use Rattle.std.proofs.Common.{◌≡◌, ◌≢◌, ◌↔◌, inl, inr, ℕ, suc, Bool, true, false, cond, List, [], ◌∷◌, length, get_or, Option, Some, None, refl, sym, ap, subst, ◌∙◌, suc-add, arith}
use Rattle.std.specs.Prelude.{Contains, find, not, option_map}
use Rattle.std.specs.Map.{lookup}
use Rattle.std.specs.List.{AllAdjacentBelow}
use Rattle.std.specs.Str.{bytes_eq}
use Rattle.std.specs.Cmp.Lexicographic.{bytes_decides}
use Rattle.std.specs.declared.cmp.Ordering.TheVariants.{Less}
use Rattle.std.proofs.lemmas.Bool.{false_from_ne_true, not-true}
use Rattle.std.proofs.lemmas.Cmp.{nat_list_cmp_total}
use Rattle.esdk_fields.specs.declared.faults.Fault.TheVariants.{ContextMismatch, MissingRequired}
use Rattle.context_codec.specs.Context.{KeyValue, IsAscending}
use Rattle.context_codec.proofs.Keys.{key_cmp, less_other, Ascends, ascends_from}
use Rattle.context_codec.specs.Parts.{holds}
use Rattle.context_codec.specs.Join.{differs, clashes, mismatch}
use Rattle.context_codec.specs.KeySet.{AreAscendingKeys}
use Rattle.keyring_trait.specs.Unlocking.{missing_required}
use Rattle.keyring_trait.specs.Laws.{IsMissing, HasTwoValues}
use Rattle.context_codec.proofs.Members.{Contains-head, Contains-tail, Contains-cases, Contains-nil}
use Rattle.context_codec.proofs.Parts.{same_pair, found_pair}
use Rattle.context_codec.specs.Laws.{IsLeastKey}

-- ---- lists that ascend by a key

-- each has a key above this one
abbrev AllAboveBy : {X : Type 0} → (X → List ℕ) → List ℕ → List X → Type 0
AllAboveBy key low [] = Unit {0}
AllAboveBy key low (x ∷ xs) = (key_cmp low (key x) ≡ Less) × AllAboveBy key low xs

-- each has a key below all that follow
abbrev Rises : {X : Type 0} → (X → List ℕ) → List X → Type 0
Rises key [] = Unit {0}
Rises key (x ∷ xs) = AllAboveBy key (key x) xs × Rises key xs

lower : {X : Type 0} (key : X → List ℕ) (a b : List ℕ) (xs : List X) → key_cmp a b ≡ Less → AllAboveBy key b xs → AllAboveBy key a xs
lower key a b [] less h = tt
lower key a b (x ∷ xs) less h = (nat_list_cmp_total.trans a b (key x) less h.0, lower key a b xs less h.1)

rises_from : {X : Type 0} (key : X → List ℕ) (xs : List X) → AllAdjacentBelow (λ x y. key_cmp (key x) (key y) ≡ Less) xs (length xs) → Rises key xs
rises_from key [] h = tt
rises_from key (x ∷ []) h = (tt, tt)
rises_from key (x ∷ y ∷ xs) h =
    let first : key_cmp (key x) (key y) ≡ Less = h 0 x (omega arith) in
    let rest = rises_from key (y ∷ xs) (λ k d lt. subst (λ (j : ℕ). key_cmp (key (get_or (y ∷ xs) k d)) (key (get_or (x ∷ y ∷ xs) j d)) ≡ Less) (suc-add k 1) (h (suc k) d (omega arith))) in
    ((first, lower key (key x) (key y) xs first rest.0), rest)

above_by : {X : Type 0} (key : X → List ℕ) (low : List ℕ) (xs : List X) (x : X) → AllAboveBy key low xs → Contains xs x → key_cmp low (key x) ≡ Less
above_by key low [] x h listed = absurd (Contains-nil x listed)
above_by key low (y ∷ xs) x h listed =
    elim (Contains-cases y xs x listed) [
      | inl is ↦ subst (λ z. key_cmp low (key z) ≡ Less) is h.0
      | inr later ↦ above_by key low xs x h.1 later
    ]

not_both : (a b : List ℕ) → key_cmp a b ≡ Less → key_cmp b a ≡ Less → ⊥
not_both a b less more = less_other a a (nat_list_cmp_total.trans a b a less more) refl

-- ---- the first that passes a test

-- It is listed and passes the test, and none that passes it has a lower key.
record IsFirst {X : Type 0} (key : X → List ℕ) (test : X → Bool) (xs : List X) (x : X) : Type 0 where
  listed : Contains xs x
  passing : test x ≡ true
  least : (y : X) → Contains xs y → test y ≡ true → key_cmp (key y) (key x) ≡ Less → ⊥

found_step : {X : Type 0} (key : X → List ℕ) (test : X → Bool) (z : X) (xs : List X) (x : X) (b : Bool) → b ≡ test z → AllAboveBy key (key z) xs → cond b (Some z) (find test xs) ≡ Some x
    → (find test xs ≡ Some x → IsFirst key test xs x) → IsFirst key test (z ∷ xs) x
found_step key test z xs x true is above e rest =
    let same : z ≡ x = cc in
    subst (λ y. IsFirst key test (z ∷ xs) y) same
    (record {
      listed = Contains-head z xs;
      passing = sym is;
      least = λ y there passes less.
          elim (Contains-cases z xs y there) [
            | inl own ↦ less_other (key y) (key z) less (ap key (sym own))
            | inr later ↦ not_both (key z) (key y) (above_by key (key z) xs y above later) less
          ];
    })
found_step key test z xs x false is above e rest =
    let first = rest e in
    record {
      listed = Contains-tail z xs x first.listed;
      passing = first.passing;
      least = λ y there passes less.
          elim (Contains-cases z xs y there) [
            | inl own ↦ let passes_z : test z ≡ true = subst (λ v. test v ≡ true) (sym own) passes in cc
            | inr later ↦ first.least y later passes less
          ];
    }

first_from_found : {X : Type 0} (key : X → List ℕ) (test : X → Bool) (xs : List X) (x : X) → Rises key xs → find test xs ≡ Some x → IsFirst key test xs x
first_from_found key test [] x up e = absurd cc
first_from_found key test (z ∷ xs) x up e = found_step key test z xs x (test z) refl up.0 e (first_from_found key test xs x up.1)

find_step : {X : Type 0} (key : X → List ℕ) (test : X → Bool) (z : X) (xs : List X) (x : X) (b : Bool) → b ≡ test z → AllAboveBy key (key z) xs → IsFirst key test (z ∷ xs) x
    → (IsFirst key test xs x → find test xs ≡ Some x) → cond b (Some z) (find test xs) ≡ Some x
find_step key test z xs x true is above first rest =
    elim (Contains-cases z xs x first.listed) [
      | inl own ↦ ap Some own
      | inr later ↦ absurd (first.least z (Contains-head z xs) (sym is) (above_by key (key z) xs x above later))
    ]
find_step key test z xs x false is above first rest =
    elim (Contains-cases z xs x first.listed) [
      | inl own ↦ absurd (let passes : test z ≡ true = subst (λ v. test v ≡ true) (sym own) first.passing in cc)
      | inr later ↦ rest (record { listed = later; passing = first.passing; least = λ y there. first.least y (Contains-tail z xs y there) })
    ]

found_from_first : {X : Type 0} (key : X → List ℕ) (test : X → Bool) (xs : List X) (x : X) → Rises key xs → IsFirst key test xs x → find test xs ≡ Some x
found_from_first key test [] x up first = absurd (Contains-nil x first.listed)
found_from_first key test (z ∷ xs) x up first = find_step key test z xs x (test z) refl up.0 first (found_from_first key test xs x up.1)

-- ---- the least missing key

named_missing : (o : Option (List ℕ)) (key : List ℕ) → option_map MissingRequired o ≡ Some (MissingRequired key) → o ≡ Some key
named_missing None key e = absurd cc
named_missing (Some k) key e = cc

pub names_missing : (given : List KeyValue) (required : List (List ℕ)) → AreAscendingKeys required → (key : List ℕ)
    → (missing_required given required ≡ Some (MissingRequired key)) ↔ IsLeastKey (IsMissing given required) key
names_missing given required up key = (
  λ e.
      let first = first_from_found (λ k. k) missing required key rises (named_missing (find missing required) key e) in
      record {
        fits = record { listed = first.listed; absent = not-true (holds given key) first.passing };
        least = λ other fits less. first.least other fits.listed (rw fits.absent refl) less;
      },
  λ h.
      let passes : missing key ≡ true = rw h.fits.absent refl in
      ap (option_map MissingRequired) (found_from_first (λ k. k) missing required key rises
      (record { listed = h.fits.listed; passing = passes; least = λ y there holds_not less. h.least y (record { listed = there; absent = not-true (holds given y) holds_not }) less })),
)
  where
    missing : List ℕ → Bool
    missing k = not (holds given k)

    rises : Rises (λ k. k) required
    rises = rises_from (λ k. k) required up

-- ---- the least key with two values

-- the value that is found for the key of a pair is the pair's
lookup_pair : (ps : List KeyValue) (key value : List ℕ) → Ascends ps → Contains ps (key, value) → lookup (bytes_eq key) ps ≡ Some value
lookup_pair ps key value up listed = by_value (lookup (bytes_eq key) ps) refl
  where
    by_value : (o : Option (List ℕ)) → o ≡ lookup (bytes_eq key) ps → o ≡ Some value
    by_value None is = absurd (none_there ps (key, value) listed (sym is))
      where
        none_there : (qs : List KeyValue) (p : KeyValue) → Contains qs p → lookup (bytes_eq p.0) qs ≡ None → ⊥
        none_there [] p there e = Contains-nil p there
        none_there (q ∷ qs) p there e = by_test (bytes_eq p.0 q.0) refl e (none_there qs p)
          where
            by_test : (b : Bool) → b ≡ bytes_eq p.0 q.0 → cond b (Some q.1) (lookup (bytes_eq p.0) qs) ≡ None → (Contains qs p → lookup (bytes_eq p.0) qs ≡ None → ⊥) → ⊥
            by_test true same e' rest = cc
            by_test false other e' rest =
                elim (Contains-cases q qs p there) [
                  | inl own ↦ let same : bytes_eq p.0 q.0 ≡ true = (bytes_decides p.0 q.0).1 (sym (ap (λ (r : KeyValue). r.0) own)) in cc
                  | inr later ↦ rest later e'
                ]
    by_value (Some found) is =
        let pair : (key, found) ≡ (key, value) = same_pair ps (key, found) (key, value) up (found_pair key found ps (sym is)) listed refl in
        ap (λ (p : KeyValue). Some p.1) pair

-- a pair clashes exactly where its key has two values
pub clash_values : (given : List KeyValue) (p : KeyValue) → clashes given p ≡ true → (other : List ℕ) × Contains given (p.0, other) × (p.1 ≢ other)
clash_values given p e = by_value (lookup (bytes_eq p.0) given) refl e
  where
    by_value : (o : Option (List ℕ)) → o ≡ lookup (bytes_eq p.0) given → differs o p.1 ≡ true → (other : List ℕ) × Contains given (p.0, other) × (p.1 ≢ other)
    by_value None is e' = absurd cc
    by_value (Some other) is e' =
        (other, found_pair p.0 other given (sym is), λ same. let alike : bytes_eq other p.1 ≡ true = (bytes_decides other p.1).1 (sym same) in let apart = not-true (bytes_eq other p.1) e' in cc)

values_clash : (given : List KeyValue) (p : KeyValue) (other : List ℕ) → Ascends given → Contains given (p.0, other) → p.1 ≢ other → clashes given p ≡ true
values_clash given p other up listed apart =
    let other_value : bytes_eq other p.1 ≡ false = false_from_ne_true (bytes_eq other p.1) (λ same. apart (sym ((bytes_decides other p.1).0 same))) in
    ap (λ (o : Option (List ℕ)). differs o p.1) (lookup_pair given p.0 other up listed) ∙ rw other_value refl

named_mismatch : (o : Option KeyValue) (key : List ℕ) → option_map (λ (p : KeyValue). ContextMismatch p.0) o ≡ Some (ContextMismatch key) → (p : KeyValue) × (o ≡ Some p) × (p.0 ≡ key)
named_mismatch None key e = absurd cc
named_mismatch (Some p) key e = (p, refl, cc)

pub names_mismatch : (stored given : List KeyValue) → IsAscending stored → IsAscending given → (key : List ℕ)
    → (mismatch stored given ≡ Some (ContextMismatch key)) ↔ IsLeastKey (HasTwoValues stored given) key
names_mismatch stored given up up_given key = (
  λ e.
      let named = named_mismatch (find (clashes given) stored) key e in
      let first = first_from_found (λ (p : KeyValue). p.0) (clashes given) stored named.0 rises named.1 in
      let values = clash_values given named.0 first.passing in
      subst (λ (k : List ℕ). IsLeastKey (HasTwoValues stored given) k) named.2
      (record {
        fits = record { value = named.0.1; other = values.0; in_stored = first.listed; in_given = values.1; differ = values.2 };
        least = λ other fits less. first.least (other, fits.value) fits.in_stored (values_clash given (other, fits.value) fits.other (ascends_from given up_given) fits.in_given fits.differ) less;
      }),
  λ h.
      let passes = values_clash given (key, h.fits.value) h.fits.other (ascends_from given up_given) h.fits.in_given h.fits.differ in
      ap (option_map (λ (p : KeyValue). ContextMismatch p.0)) (found_from_first (λ (p : KeyValue). p.0) (clashes given) stored (key, h.fits.value) rises
      (record {
        listed = h.fits.in_stored;
        passing = passes;
        least = λ y there clash less.
            let values = clash_values given y clash in
            h.least y.0 (record { value = y.1; other = values.0; in_stored = there; in_given = values.1; differ = values.2 }) less;
      })),
)
  where
    rises : Rises (λ (p : KeyValue). p.0) stored
    rises = rises_from (λ (p : KeyValue). p.0) stored up
