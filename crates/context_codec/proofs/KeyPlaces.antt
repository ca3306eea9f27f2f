-- The place of a key among keys, as a binary search finds it.
use Rattle.std.proofs.Common.{◌≡◌, ℕ, zero, suc, ◌+◌, ◌<◌, ◌≤◌, inl, inr, Result, Ok, Err, false, List, [], ◌∷◌, ◌++◌, length, get_or, take, drop, refl, sym, ap, subst, ◌∙◌, append_assoc, arith, Ordering}
use Rattle.std.specs.Prelude.{Contains}
use Rattle.std.specs.Result.{MatchResult}
use Rattle.std.specs.List.Sorted.{IsSearchInRange, IsBinarySearchResult}
use Rattle.std.specs.Ordering.{match_ordering}
use Rattle.std.specs.declared.cmp.Ordering.TheVariants.{Less, Equal, Greater}
use Rattle.std.specs.Str.{bytes_eq}
use Rattle.std.specs.Cmp.Lexicographic.{bytes_decides}
use Rattle.std.proofs.lemmas.Cmp.{nat_list_cmp_total, tied_itself}
use Rattle.std.proofs.lemmas.Bool.{cases_order, false_from_ne_true}
use Rattle.std.proofs.lemmas.List.{drop_more, take_more, take-append-drop, drop_all, get_or_default}
use Rattle.context_codec.specs.KeySet.{AreAscendingKeys, has, with_key}
use Rattle.context_codec.specs.Placing.{IsKeyAt, IsKeyPlace}
use Rattle.context_codec.proofs.Keys.{key_cmp, greater_less}
use Rattle.context_codec.proofs.KeySets.{has-from_Contains}
use Rattle.context_codec.proofs.Members.{none_passes}
use Rattle.context_codec.proofs.Searches.{Found, Gap, searched, turned}

-- All keys before the index are below the key.
abbrev KeyPassed : List ℕ → List (List ℕ) → ℕ → Type 0
KeyPassed key keys i = with_key keys key ≡ take i keys ++ with_key (drop i keys) key

-- the key at the index, and those from it on
with_key_at : (key : List ℕ) (keys : List (List ℕ)) (i : ℕ) (k : List ℕ) (o : Ordering) → i < length keys → k ≡ get_or keys i k → o ≡ key_cmp key k
    → with_key (drop i keys) key ≡ match_ordering o (key ∷ drop i keys) (drop i keys) (k ∷ with_key (drop (i + 1) keys) key)
unfolding with_key
with_key_at key keys i k o lt at is =
    let split : drop i keys ≡ k ∷ drop (i + 1) keys = drop_more keys i k lt ∙ ap (λ (j : List ℕ). j ∷ drop (i + 1) keys) (sym at) in
    ap (λ (ks : List (List ℕ)). with_key ks key) split
    ∙ ap (λ (r : Ordering). match_ordering r (key ∷ k ∷ drop (i + 1) keys) (k ∷ drop (i + 1) keys) (k ∷ with_key (drop (i + 1) keys) key)) (sym is)
    ∙ ap (λ (ks : List (List ℕ)). match_ordering o (key ∷ ks) ks (k ∷ with_key (drop (i + 1) keys) key)) (sym split)

key_passed_more : (key : List ℕ) (keys : List (List ℕ)) (i : ℕ) (k : List ℕ) → i < length keys → k ≡ get_or keys i k → key_cmp key k ≡ Greater → KeyPassed key keys i → KeyPassed key keys (i + 1)
key_passed_more key keys i k lt at greater so_far =
    let taken : take (i + 1) keys ≡ take i keys ++ k ∷ [] = take_more keys i k lt ∙ ap (λ (j : List ℕ). take i keys ++ j ∷ []) (sym at) in
    so_far ∙ ap (λ (ks : List (List ℕ)). take i keys ++ ks) (with_key_at key keys i k Greater lt at (sym greater))
    ∙ sym (append_assoc (take i keys) (k ∷ []) (with_key (drop (i + 1) keys) key))
    ∙ ap (λ (ks : List (List ℕ)). ks ++ with_key (drop (i + 1) keys) key) (sym taken)

-- what the set is with the key at this index
abbrev WithKeyAt : List ℕ → List (List ℕ) → ℕ → Type 0
WithKeyAt key keys i = with_key keys key ≡ take i keys ++ key ∷ drop i keys

key_before : (key : List ℕ) (keys : List (List ℕ)) (i : ℕ) (k : List ℕ) → i < length keys → k ≡ get_or keys i k → key_cmp key k ≡ Less → KeyPassed key keys i → WithKeyAt key keys i
key_before key keys i k lt at less so_far = so_far ∙ ap (λ (ks : List (List ℕ)). take i keys ++ ks) (with_key_at key keys i k Less lt at (sym less))

key_last : (key : List ℕ) (keys : List (List ℕ)) (i : ℕ) → i ≡ length keys → KeyPassed key keys i → WithKeyAt key keys i
unfolding with_key
key_last key keys i end so_far =
    let none : drop i keys ≡ [] = drop_all i keys (omega arith) in
    so_far ∙ ap (λ (ks : List (List ℕ)). take i keys ++ with_key ks key) none ∙ ap (λ (ks : List (List ℕ)). take i keys ++ key ∷ ks) (sym none)

key_stays : (key : List ℕ) (keys : List (List ℕ)) (i : ℕ) (k : List ℕ) → i < length keys → k ≡ get_or keys i k → key_cmp key k ≡ Equal → KeyPassed key keys i → with_key keys key ≡ keys
key_stays key keys i k lt at tied so_far =
    so_far ∙ ap (λ (ks : List (List ℕ)). take i keys ++ ks) (with_key_at key keys i k Equal lt at (sym tied)) ∙ take-append-drop i keys

-- ---- what a search finds

-- the keys before the index are lower
abbrev LowerBefore : List ℕ → List (List ℕ) → ℕ → Type 0
LowerBefore key keys i = (k : ℕ) (d : List ℕ) → k < i → key_cmp (get_or keys k d) key ≡ Less

passed_lower : (key : List ℕ) (keys : List (List ℕ)) (i : ℕ) → i ≤ length keys → LowerBefore key keys i → KeyPassed key keys i
passed_lower key keys zero le lower = refl
passed_lower key keys (suc i) le lower =
    let lt : i < length keys = omega arith in
    let k = get_or keys i [] in
    let greater : key_cmp key k ≡ Greater = turned k key Less (lower i [] (omega arith)) in
    let next : i + 1 ≡ suc i = omega arith in
    subst (λ (j : ℕ). KeyPassed key keys j) next
    (key_passed_more key keys i k lt (get_or_default keys i [] k lt) greater (passed_lower key keys i (omega arith) (λ j d l. lower j d (omega arith))))

-- two keys that an order tells apart
other_key : (key k : List ℕ) (o : Ordering) → key_cmp k key ≡ o → (o ≡ Equal → ⊥) → bytes_eq key k ≡ false
other_key key k o e apart =
    false_from_ne_true (bytes_eq key k) (λ same.
    let tied : key_cmp k key ≡ Equal = subst (λ (j : List ℕ). key_cmp k j ≡ Equal) (sym ((bytes_decides key k).0 same)) (tied_itself nat_list_cmp_total k) in
    apart (sym e ∙ tied))

gap_absent : (key : List ℕ) (keys : List (List ℕ)) (i : ℕ) → Gap (λ k. k) key keys i → has keys key ≡ false
gap_absent key keys i gap = none_passes (bytes_eq key) keys differs
  where
    at_index : (x : List ℕ) (k : ℕ) → k < length keys → bytes_eq key (get_or keys k x) ≡ false
    at_index x k lt =
        elim (cases_order k i) [
          | inl here ↦ other_key key (get_or keys k x) Greater (gap.above k x (omega arith) lt) (λ e. absurd cc)
          | inr (inl before) ↦ other_key key (get_or keys k x) Less (gap.below k x before) (λ e. absurd cc)
          | inr (inr after) ↦ other_key key (get_or keys k x) Greater (gap.above k x (omega arith) lt) (λ e. absurd cc)
        ]

    differs : (x : List ℕ) → Contains keys x → bytes_eq key x ≡ false
    differs x listed = subst (λ (y : List ℕ). bytes_eq key y ≡ false) listed.2 (at_index x listed.0 listed.1)

gap_place : (key : List ℕ) (keys : List (List ℕ)) (i : ℕ) → Gap (λ k. k) key keys i → IsKeyPlace key keys i
gap_place key keys i gap =
    let passed : KeyPassed key keys i = passed_lower key keys i gap.within gap.below in
    let placed : WithKeyAt key keys i = elim (cases_order i (length keys)) [
      | inl end ↦ key_last key keys i end passed
      | inr (inl lt) ↦
          let k = get_or keys i [] in
          key_before key keys i k lt (get_or_default keys i [] k lt) (greater_less k key (gap.above i [] (omega arith) lt)) passed
      | inr (inr gt) ↦ absurd (omega (arith, gap.within))
    ] in
    record { within = gap.within; absent = gap_absent key keys i gap; inserted = placed }

found_key : (key : List ℕ) (keys : List (List ℕ)) (i : ℕ) → Found (λ k. k) key keys i → IsKeyAt key keys i
found_key key keys i found =
    let k = get_or keys i [] in
    let same : k ≡ key = found.same [] in
    let tied : key_cmp key k ≡ Equal = subst (λ (j : List ℕ). key_cmp key j ≡ Equal) (sym same) (tied_itself nat_list_cmp_total key) in
    let le : i ≤ length keys = omega (arith, found.within) in
    record {
      within = found.within;
      held = has-from_Contains keys key (i, found.within, found.same key);
      kept = key_stays key keys i k found.within (get_or_default keys i [] k found.within) tied (passed_lower key keys i le found.below);
    }

pub key_searched : (key : List ℕ) (keys : List (List ℕ)) → AreAscendingKeys keys → (r : Result ℕ ℕ) → IsSearchInRange r (length keys) → IsBinarySearchResult (λ k. key_cmp k key) keys r
    → MatchResult r (IsKeyAt key keys) (IsKeyPlace key keys)
key_searched key keys up r within position = of_answer r (searched (λ (k : List ℕ). k) key keys up r within position)
  where
    of_answer : (r : Result ℕ ℕ) → MatchResult r (Found (λ (k : List ℕ). k) key keys) (Gap (λ (k : List ℕ). k) key keys) → MatchResult r (IsKeyAt key keys) (IsKeyPlace key keys)
    of_answer (Ok i) found = found_key key keys i found
    of_answer (Err i) gap = gap_place key keys i gap
