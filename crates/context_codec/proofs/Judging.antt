-- The judgement of split pairs, from what the steps of reading found.
use Rattle.std.proofs.Common.{◌≡◌, ◌≢◌, ℕ, ◌+◌, ◌-◌, ◌<◌, ◌≤◌, true, false, List, [], ◌∷◌, length, get_or, Some, None, refl, sym, ap, subst, ◌∙◌, arith, Ordering}
use Rattle.std.specs.Ordering.{is_lt, is_eq, ordering_reverse}
use Rattle.std.specs.declared.cmp.Ordering.TheVariants.{Less, Equal, Greater}
use Rattle.std.specs.List.Sorted.{IsPermutation}
use Rattle.std.specs.Str.{bytes_eq}
use Rattle.std.specs.Cmp.Lexicographic.{bytes_decides}
use Rattle.std.proofs.lemmas.Bool.{false_from_ne_true, false≢true}
use Rattle.std.proofs.lemmas.List.{get_or_default}
use Rattle.std.proofs.lemmas.List.Sorted.{IsPermutation-sym}
use Rattle.std.proofs.lemmas.Cmp.{nat_list_cmp_total}
use Rattle.std.proofs.lemmas.Map.Text.{is_eq-slice_cmp}
use Rattle.esdk_fields.specs.declared.faults.ContextFault.TheVariants.{Length, Utf8, Duplicate}
use Rattle.context_codec.specs.Context.{KeyValue, are_texts, IsAscending}
use Rattle.context_codec.specs.Split.{split, keys_once, fault_in, context_fault}
use Rattle.context_codec.specs.Found.{IsSortedByKeys, HasTie}
use Rattle.context_codec.proofs.Keys.{key_cmp, ascends_from}
use Rattle.context_codec.proofs.Distinct.{distinct_from_ascends, once_from_distinct, distinct_from_once, keys_once-permutation}

-- ---- the pass over neighbours

pub tie_at : (ps : List KeyValue) (i : ℕ) (p q : KeyValue) → 1 ≤ i → i < length ps → p ≡ get_or ps (i - 1) p → q ≡ get_or ps i q → key_cmp p.0 q.0 ≢ Less → HasTie ps
tie_at ps i p q above lt at_p at_q ne =
    let next : (i - 1) + 1 ≡ i = omega arith in
    record {
      at = i - 1;
      within = omega arith;
      tied = λ d less.
          let first : get_or ps (i - 1) d ≡ p = get_or_default ps (i - 1) d p (omega arith) ∙ sym at_p in
          let second : get_or ps ((i - 1) + 1) d ≡ q = ap (λ (k : ℕ). get_or ps k d) next ∙ get_or_default ps i d q lt ∙ sym at_q in
          ne (ap (λ (r : KeyValue). key_cmp r.0 q.0) (sym first) ∙ ap (λ (r : KeyValue). key_cmp (get_or ps (i - 1) d).0 r.0) (sym second) ∙ less);
    }

-- neither less nor greater
tied_order : (a b : List ℕ) (o : Ordering) → o ≡ key_cmp a b → o ≢ Less → is_lt (ordering_reverse o) ≡ false → a ≡ b
tied_order a b Less is ne back = absurd (ne refl)
tied_order a b Equal is ne back = key_same_from (sym (is_eq-slice_cmp a b) ∙ ap is_eq (sym is))
  where
    key_same_from : bytes_eq a b ≡ true → a ≡ b
    key_same_from e = (bytes_decides a b).0 e
tied_order a b Greater is ne back = absurd cc

-- in a sorted list, two keys of a tie are equal
pub tie_same : (ps : List KeyValue) → IsSortedByKeys ps → HasTie ps → keys_once ps ≡ false
tie_same [] sorted tie = absurd (omega (arith, tie.within))
tie_same (d ∷ ps) sorted tie =
    let a = get_or (d ∷ ps) tie.at d in
    let b = get_or (d ∷ ps) (tie.at + 1) d in
    let back : is_lt (key_cmp b.0 a.0) ≡ false = sorted tie.at d (omega arith) tie.within in
    let turned : is_lt (ordering_reverse (key_cmp a.0 b.0)) ≡ false = subst (λ (o : Ordering). is_lt o ≡ false) (nat_list_cmp_total.antisymm b.0 a.0) back in
    let same : a.0 ≡ b.0 = tied_order a.0 b.0 (key_cmp a.0 b.0) refl (tie.tied d) turned in
    false_from_ne_true (keys_once (d ∷ ps)) (λ once. distinct_from_once (d ∷ ps) once tie.at (tie.at + 1) d (omega arith) tie.within same)

-- ---- what is wrong with the split pairs

pub fault_none_split : (bytes : List ℕ) → split bytes ≡ None → context_fault bytes ≡ Some Length
unfolding context_fault
fault_none_split bytes e = ap fault_in e

pub fault_no_texts : (bytes : List ℕ) (ps : List KeyValue) → split bytes ≡ Some ps → are_texts ps ≡ false → context_fault bytes ≡ Some Utf8
unfolding context_fault
fault_no_texts bytes ps e texts = ap fault_in e ∙ rw texts refl

pub fault_twice : (bytes : List ℕ) (ps : List KeyValue) → split bytes ≡ Some ps → are_texts ps ≡ true → keys_once ps ≡ false → context_fault bytes ≡ Some Duplicate
unfolding context_fault
fault_twice bytes ps e texts once = ap fault_in e ∙ rw (texts, once) refl

pub fault_none : (bytes : List ℕ) (ps : List KeyValue) → split bytes ≡ Some ps → are_texts ps ≡ true → keys_once ps ≡ true → context_fault bytes ≡ None
unfolding context_fault
fault_none bytes ps e texts once = ap fault_in e ∙ rw (texts, once) refl

-- a tie among the sorted pairs
pub fault_of_tie : (bytes : List ℕ) (ps qs : List KeyValue) → split bytes ≡ Some ps → are_texts ps ≡ true → IsPermutation ps qs → IsSortedByKeys qs → HasTie qs → context_fault bytes ≡ Some Duplicate
fault_of_tie bytes ps qs e texts same sorted tie =
    fault_twice bytes ps e texts (false_from_ne_true (keys_once ps) (λ once. false≢true (sym (tie_same qs sorted tie) ∙ keys_once-permutation ps qs same once)))

-- no tie among them
pub no_fault_of : (bytes : List ℕ) (ps qs : List KeyValue) → split bytes ≡ Some ps → are_texts ps ≡ true → IsPermutation ps qs → IsAscending qs → context_fault bytes ≡ None
no_fault_of bytes ps qs e texts same up =
    fault_none bytes ps e texts (keys_once-permutation qs ps (IsPermutation-sym ps qs same) (once_from_distinct qs (distinct_from_ascends qs (ascends_from qs up))))
