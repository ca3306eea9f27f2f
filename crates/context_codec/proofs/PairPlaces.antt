-- The place of a key among pairs, as a binary search finds it.
use Rattle.std.proofs.Common.{◌≡◌, ℕ, zero, suc, ◌+◌, ◌<◌, ◌≤◌, inl, inr, Result, Ok, Err, false, List, [], length, get_or, drop, Some, refl, sym, ap, subst, ◌∙◌, arith}
use Rattle.std.specs.Result.{MatchResult}
use Rattle.std.specs.List.Sorted.{IsSearchInRange, IsBinarySearchResult}
use Rattle.std.specs.Map.{lookup}
use Rattle.std.specs.declared.cmp.Ordering.TheVariants.{Less, Equal, Greater}
use Rattle.std.specs.Str.{bytes_eq}
use Rattle.std.specs.Cmp.Lexicographic.{bytes_decides}
use Rattle.std.proofs.lemmas.Cmp.{nat_list_cmp_total, tied_itself}
use Rattle.std.proofs.lemmas.Bool.{cases_order, false_from_ne_true}
use Rattle.std.proofs.lemmas.List.{get_or_default}
use Rattle.context_codec.specs.Context.{KeyValue, IsAscending}
use Rattle.context_codec.specs.Placing.{IsPairAt, IsPlace}
use Rattle.context_codec.proofs.Keys.{key_cmp, less_other, greater_less, Passed, passed_none, passed_more, place_before, place_end, key_there}
use Rattle.context_codec.proofs.Lookups.{lookup_here, lookup_past}
use Rattle.context_codec.proofs.Searches.{Found, Gap, searched, turned}

-- the keys before the index are lower
abbrev LowerBefore : List ℕ → List KeyValue → ℕ → Type 0
LowerBefore key ps i = (k : ℕ) (d : KeyValue) → k < i → key_cmp (get_or ps k d).0 key ≡ Less

nothing : KeyValue
nothing = ([], [])

pair_at : List KeyValue → ℕ → KeyValue
pair_at ps i = get_or ps i nothing

at_itself : (ps : List KeyValue) (i : ℕ) → i < length ps → pair_at ps i ≡ get_or ps i (pair_at ps i)
unfolding pair_at
at_itself ps i lt = get_or_default ps i nothing (pair_at ps i) lt

passed_lower : (key : List ℕ) (ps : List KeyValue) (i : ℕ) → i ≤ length ps → LowerBefore key ps i → Passed key ps i
unfolding pair_at
passed_lower key ps zero le lower = passed_none key ps
passed_lower key ps (suc i) le lower =
    let lt : i < length ps = omega arith in
    let p = pair_at ps i in
    let greater : key_cmp key p.0 ≡ Greater = turned p.0 key Less (lower i nothing (omega arith)) in
    let next : i + 1 ≡ suc i = omega arith in
    subst (Passed key ps) next (passed_more key ps i p lt (at_itself ps i lt) greater (passed_lower key ps i (omega arith) (λ k d l. lower k d (omega arith))))

lookup_lower : (key : List ℕ) (ps : List KeyValue) (i : ℕ) → i ≤ length ps → LowerBefore key ps i → lookup (bytes_eq key) ps ≡ lookup (bytes_eq key) (drop i ps)
unfolding pair_at
lookup_lower key ps zero le lower = refl
lookup_lower key ps (suc i) le lower =
    let lt : i < length ps = omega arith in
    let p = pair_at ps i in
    let other : bytes_eq key p.0 ≡ false = false_from_ne_true (bytes_eq key p.0) (λ e. less_other p.0 key (lower i nothing (omega arith)) (sym ((bytes_decides key p.0).0 e))) in
    let next : i + 1 ≡ suc i = omega arith in
    lookup_lower key ps i (omega arith) (λ k d l. lower k d (omega arith))
    ∙ lookup_past key ps i p lt (at_itself ps i lt) other ∙ ap (λ (j : ℕ). lookup (bytes_eq key) (drop j ps)) next

found_pair : (key : List ℕ) (ps : List KeyValue) (i : ℕ) → Found (λ p. p.0) key ps i → IsPairAt key ps i
unfolding pair_at
found_pair key ps i found =
    let p = pair_at ps i in
    let is = at_itself ps i found.within in
    let same : p.0 ≡ key = found.same nothing in
    let tied : key_cmp key p.0 ≡ Equal = subst (λ (k : List ℕ). key_cmp key k ≡ Equal) (sym same) (tied_itself nat_list_cmp_total key) in
    record {
      within = found.within;
      held = key_there key ps i p found.within is tied;
      found = λ d.
          lookup_lower key ps i (omega (arith, found.within)) found.below ∙ lookup_here key ps i p found.within is ((bytes_decides key p.0).1 (sym same))
          ∙ ap (λ (q : KeyValue). Some q.1) (get_or_default ps i nothing d found.within);
    }

gap_place : (key : List ℕ) (ps : List KeyValue) (i : ℕ) → IsAscending ps → Gap (λ p. p.0) key ps i → IsPlace key ps i
unfolding pair_at
gap_place key ps i up gap =
    let passed : Passed key ps i = passed_lower key ps i gap.within gap.below in
    elim (cases_order i (length ps)) [
      | inl end ↦ place_end key ps i end passed
      | inr (inl lt) ↦ place_before key ps i (pair_at ps i) lt (at_itself ps i lt) (greater_less (pair_at ps i).0 key (gap.above i nothing (omega arith) lt)) up passed
      | inr (inr gt) ↦ absurd (omega (arith, gap.within))
    ]

pub pair_searched : (key : List ℕ) (ps : List KeyValue) → IsAscending ps → (r : Result ℕ ℕ) → IsSearchInRange r (length ps) → IsBinarySearchResult (λ p. key_cmp p.0 key) ps r
    → MatchResult r (IsPairAt key ps) (IsPlace key ps)
pair_searched key ps up r within position = of_answer r (searched (λ (p : KeyValue). p.0) key ps up r within position)
  where
    of_answer : (r : Result ℕ ℕ) → MatchResult r (Found (λ (p : KeyValue). p.0) key ps) (Gap (λ (p : KeyValue). p.0) key ps) → MatchResult r (IsPairAt key ps) (IsPlace key ps)
    of_answer (Ok i) found = found_pair key ps i found
    of_answer (Err i) gap = gap_place key ps i up gap
