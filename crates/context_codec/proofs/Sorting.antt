-- Pairs with distinct keys can be put in order.
use Rattle.std.proofs.Common.{◌≡◌, ℕ, false, List, [], ◌∷◌, None, refl, sym, ap, ◌∙◌, Ordering}
use Rattle.std.specs.List.{list_any}
use Rattle.std.specs.BTreeMap.{insert_entry}
use Rattle.std.specs.Ordering.{match_ordering, is_eq}
use Rattle.std.specs.declared.cmp.Ordering.TheVariants.{Less, Equal, Greater}
use Rattle.std.specs.List.Sorted.{IsPermutation}
use Rattle.std.proofs.lemmas.Bool.{or_parts, false≢true}
use Rattle.std.proofs.lemmas.List.Sorted.{IsPermutation-refl, IsPermutation-trans, IsPermutation-cons, IsPermutation-middle, list_any-IsPermutation}
use Rattle.std.proofs.lemmas.Map.Text.{is_eq-slice_cmp}
use Rattle.context_codec.specs.Context.{KeyValue, has_key}
use Rattle.context_codec.specs.Split.{context_fault, SpellsContext}
use Rattle.context_codec.proofs.Keys.{key_cmp, Ascends, Ascends-insert, ascending_from}
use Rattle.context_codec.proofs.Distinct.{Distinct, distinct_from, distinct_from_once}
use Rattle.context_codec.proofs.Verdicts.{Verdict, NoPairs, NoTexts, Twice, Taken, verdict}

placed : (p q : KeyValue) (qs : List KeyValue) (o : Ordering) → o ≡ key_cmp p.0 q.0 → has_key p.0 q ≡ false → IsPermutation (p ∷ qs) (insert_entry key_cmp qs p.0 p.1)
    → IsPermutation (p ∷ q ∷ qs) (match_ordering o (p ∷ q ∷ qs) ((q.0, p.1) ∷ qs) (q ∷ insert_entry key_cmp qs p.0 p.1))
placed p q qs Less is other rest = IsPermutation-refl (p ∷ q ∷ qs)
placed p q qs Equal is other rest = absurd (false≢true (sym other ∙ sym (is_eq-slice_cmp p.0 q.0) ∙ ap is_eq (sym is)))
placed p q qs Greater is other rest =
    IsPermutation-trans (p ∷ q ∷ qs) (q ∷ p ∷ qs) (q ∷ insert_entry key_cmp qs p.0 p.1)
    (IsPermutation-middle (p ∷ []) q qs) (IsPermutation-cons q (p ∷ qs) (insert_entry key_cmp qs p.0 p.1) rest)

-- a pair with a new key, put at its place
inserted_permutes : (p : KeyValue) (qs : List KeyValue) → list_any (has_key p.0) qs ≡ false → IsPermutation (p ∷ qs) (insert_entry key_cmp qs p.0 p.1)
inserted_permutes p [] none = IsPermutation-refl (p ∷ [])
inserted_permutes p (q ∷ qs) none =
    let parts = or_parts (has_key p.0 q) (list_any (has_key p.0) qs) none in
    placed p q qs (key_cmp p.0 q.0) refl parts.0 (inserted_permutes p qs parts.1)

-- the pairs in the order of their keys
record InOrder (ps : List KeyValue) : Type 0 where
  sorted : List KeyValue
  same : IsPermutation ps sorted
  up : Ascends sorted

in_order : (ps : List KeyValue) → Distinct ps → InOrder ps
in_order [] h = record { sorted = []; same = IsPermutation-refl []; up = tt }
in_order (p ∷ ps) h =
    let rest = in_order ps h.1 in
    let none : list_any (has_key p.0) rest.sorted ≡ false = sym (list_any-IsPermutation (has_key p.0) ps rest.sorted rest.same) ∙ h.0 in
    record {
      sorted = insert_entry key_cmp rest.sorted p.0 p.1;
      same = IsPermutation-trans (p ∷ ps) (p ∷ rest.sorted) (insert_entry key_cmp rest.sorted p.0 p.1) (IsPermutation-cons p ps rest.sorted rest.same) (inserted_permutes p rest.sorted none);
      up = Ascends-insert p.0 p.1 rest.sorted rest.up;
    }

-- bytes with which nothing is wrong spell a context
pub spells_some : (bytes : List ℕ) → context_fault bytes ≡ None → (c : List KeyValue) × SpellsContext bytes c
spells_some bytes e = of_verdict (verdict bytes) e
  where
    of_verdict : Verdict bytes → context_fault bytes ≡ None → (c : List KeyValue) × SpellsContext bytes c
    of_verdict (NoPairs s f) e' = absurd cc
    of_verdict (NoTexts pairs s t f) e' = absurd cc
    of_verdict (Twice pairs s t o f) e' = absurd cc
    of_verdict (Taken pairs s t o f) e' =
        let order = in_order pairs (distinct_from pairs (distinct_from_once pairs o)) in
        (order.sorted, record { pairs = pairs; spelled = s; texts = t; same = order.same; ascending = ascending_from order.sorted order.up })
