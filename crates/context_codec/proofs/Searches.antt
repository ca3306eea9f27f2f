-- What a binary search finds in a list whose elements ascend by their keys.
use Rattle.std.proofs.Common.{◌≡◌, ℕ, zero, suc, ◌+◌, ◌-◌, ◌<◌, ◌≤◌, Result, Ok, Err, List, length, get_or, ap, subst, ◌∙◌, arith, Ordering}
use Rattle.std.specs.Result.{MatchResult}
use Rattle.std.specs.List.{AllAdjacentBelow}
use Rattle.std.specs.List.Sorted.{IsSearchInRange, IsBinarySearchResult, IsNonDecreasingBy, IsSortedBy}
use Rattle.std.specs.Ordering.{is_lt, ordering_index, ordering_reverse}
use Rattle.std.specs.declared.cmp.Ordering.TheVariants.{Less, Greater}
use Rattle.std.proofs.lemmas.Cmp.{nat_list_cmp_total}
use Rattle.std.proofs.lemmas.List.Sorted.{searchable_from_sorted}
use Rattle.context_codec.proofs.Keys.{key_cmp, equal_same}

pub turned : (a b : List ℕ) (o : Ordering) → key_cmp a b ≡ o → key_cmp b a ≡ ordering_reverse o
turned a b o e = nat_list_cmp_total.antisymm b a ∙ ap ordering_reverse e

module _ {X : Type 0} (key_of : X → List ℕ) (key : List ℕ) (xs : List X) where
  -- the element at the index has the key, and those before it have lower ones
  pub record Found (i : ℕ) : Type 0 where
    pub within : i < length xs
    pub below : (k : ℕ) (d : X) → k < i → key_cmp (key_of (get_or xs k d)) key ≡ Less
    pub same : (d : X) → key_of (get_or xs i d) ≡ key

  -- the elements before the index have lower keys, and those from it on have higher ones
  pub record Gap (i : ℕ) : Type 0 where
    pub within : i ≤ length xs
    pub below : (k : ℕ) (d : X) → k < i → key_cmp (key_of (get_or xs k d)) key ≡ Less
    pub above : (k : ℕ) (d : X) → i ≤ k → k < length xs → key_cmp (key_of (get_or xs k d)) key ≡ Greater

  abbrev AscendsByKeys : Type 0
  AscendsByKeys = AllAdjacentBelow (λ p q. key_cmp (key_of p) (key_of q) ≡ Less) xs (length xs)

  falls_nowhere : AscendsByKeys → IsSortedBy (λ p q. is_lt (key_cmp (key_of p) (key_of q))) xs
  falls_nowhere up k d low lt = ap is_lt (turned (key_of (get_or xs k d)) (key_of (get_or xs (k + 1) d)) Less (up k d lt))

  -- the comparisons with the key rise along the list, as a binary search asks
  rises : AscendsByKeys → IsNonDecreasingBy (λ x. ordering_index (key_cmp (key_of x) key)) xs
  rises up = searchable_from_sorted nat_list_cmp_total key_of xs key (falls_nowhere up)

  -- n + 1 places on, the key is higher
  far : AscendsByKeys → (i n : ℕ) (d : X) → i + suc n < length xs → key_cmp (key_of (get_or xs i d)) (key_of (get_or xs (i + suc n) d)) ≡ Less
  far up i zero d lt = up i d lt
  far up i (suc n) d lt =
      let next : i + suc n + 1 ≡ i + suc (suc n) = omega arith in
      let step : key_cmp (key_of (get_or xs (i + suc n) d)) (key_of (get_or xs (i + suc (suc n)) d)) ≡ Less = subst (λ (j : ℕ). key_cmp (key_of (get_or xs (i + suc n) d)) (key_of (get_or xs j d)) ≡ Less) next (up (i + suc n) d (omega arith)) in
      nat_list_cmp_total.trans (key_of (get_or xs i d)) (key_of (get_or xs (i + suc n) d)) (key_of (get_or xs (i + suc (suc n)) d)) (far up i n d (omega arith)) step

  below_found : AscendsByKeys → (k i : ℕ) (d : X) → k < i → i < length xs → key_cmp (key_of (get_or xs k d)) (key_of (get_or xs i d)) ≡ Less
  below_found up k i d lt within =
      let on : k + suc (i - k - 1) ≡ i = omega arith in
      subst (λ (j : ℕ). key_cmp (key_of (get_or xs k d)) (key_of (get_or xs j d)) ≡ Less) on (far up k (i - k - 1) d (omega arith))

  pub searched : AscendsByKeys → (r : Result ℕ ℕ) → IsSearchInRange r (length xs) → IsBinarySearchResult (λ x. key_cmp (key_of x) key) xs r → MatchResult r Found Gap
  searched up (Ok i) within tied =
      let same : (d : X) → key_of (get_or xs i d) ≡ key = λ d. equal_same (key_of (get_or xs i d)) key (tied d) in
      record {
        within = within;
        below = λ k d lt. subst (λ (j : List ℕ). key_cmp (key_of (get_or xs k d)) j ≡ Less) (same d) (below_found up k i d lt within);
        same = same;
      }
  searched up (Err i) within parted = record {
    within = within;
    below = λ k d lt. (parted (rises up)).0 k d (omega arith) lt;
    above = λ k d le lt. (parted (rises up)).1 k d le lt;
  }
