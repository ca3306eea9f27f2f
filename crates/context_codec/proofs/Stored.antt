-- The pairs that a header's bytes spell, as a function of the bytes.
use Rattle.std.proofs.Common.{◌≡◌, ℕ, false, List, [], ◌∷◌, ◌++◌, refl, sym, ap, subst, ◌∙◌, Ordering}
use Rattle.std.specs.Prelude.{All}
use Rattle.std.specs.List.{list_any}
use Rattle.std.specs.List.Sorted.{IsPermutation}
use Rattle.std.specs.Ordering.{match_ordering, is_eq}
use Rattle.std.specs.declared.cmp.Ordering.TheVariants.{Less, Equal, Greater}
use Rattle.std.proofs.lemmas.Bool.{or_parts, or_from, false≢true}
use Rattle.std.proofs.lemmas.List.{append-nil}
use Rattle.std.proofs.lemmas.List.Elements.{All-head, All-tail}
use Rattle.std.proofs.lemmas.List.Folds.{list_any-append}
use Rattle.std.proofs.lemmas.List.Sorted.{IsPermutation-refl, IsPermutation-sym, IsPermutation-trans, IsPermutation-cons, IsPermutation-middle, list_any-IsPermutation, Contains-permutation}
use Rattle.std.proofs.lemmas.Map.Text.{is_eq-slice_cmp}
use Rattle.context_codec.specs.Context.{KeyValue, has_key}
use Rattle.context_codec.specs.Split.{SpellsContext}
use Rattle.context_codec.proofs.Keys.{key_cmp, Ascends, Ascends-insert, ascends_from}
use Rattle.context_codec.proofs.Distinct.{Distinct, distinct_from, distinct_from_once}
use Rattle.context_codec.proofs.OneContext.{same_ascending}
use Rattle.context_codec.proofs.Verdicts.{once_spelled}
use Rattle.context_codec.specs.Parts.{holds, put, joined, stored_in}

placed : (p q : KeyValue) (qs : List KeyValue) (o : Ordering) → o ≡ key_cmp p.0 q.0 → has_key p.0 q ≡ false → IsPermutation (p ∷ qs) (put p qs)
    → IsPermutation (p ∷ q ∷ qs) (match_ordering o (p ∷ q ∷ qs) ((q.0, p.1) ∷ qs) (q ∷ put p qs))
placed p q qs Less is other rest = IsPermutation-refl (p ∷ q ∷ qs)
placed p q qs Equal is other rest = absurd (false≢true (sym other ∙ sym (is_eq-slice_cmp p.0 q.0) ∙ ap is_eq (sym is)))
placed p q qs Greater is other rest =
    IsPermutation-trans (p ∷ q ∷ qs) (q ∷ p ∷ qs) (q ∷ put p qs) (IsPermutation-middle (p ∷ []) q qs) (IsPermutation-cons q (p ∷ qs) (put p qs) rest)

-- a pair with a new key is put among the others
put_permutes : (p : KeyValue) (qs : List KeyValue) → list_any (has_key p.0) qs ≡ false → IsPermutation (p ∷ qs) (put p qs)
put_permutes p [] none = IsPermutation-refl (p ∷ [])
put_permutes p (q ∷ qs) none =
    let parts = or_parts (has_key p.0 q) (list_any (has_key p.0) qs) none in
    placed p q qs (key_cmp p.0 q.0) refl parts.0 (put_permutes p qs parts.1)

-- pairs with distinct new keys, joined to pairs, are all of them in some order
pub joined_permutes : (ps more : List KeyValue) → Distinct more → All (λ p. holds ps p.0 ≡ false) more → IsPermutation (ps ++ more) (joined ps more)
joined_permutes ps [] distinct apart = subst (λ (qs : List KeyValue). IsPermutation qs ps) (sym (append-nil ps)) (IsPermutation-refl ps)
joined_permutes ps (p ∷ more) distinct apart =
    let rest = joined_permutes ps more distinct.1 (All-tail (λ q. holds ps q.0 ≡ false) p more apart) in
    let none : holds (joined ps more) p.0 ≡ false =
    sym (list_any-IsPermutation (has_key p.0) (ps ++ more) (joined ps more) rest) ∙ list_any-append (has_key p.0) ps more
    ∙ or_from (holds ps p.0) (holds more p.0) (All-head (λ q. holds ps q.0 ≡ false) p more apart) distinct.0 in
    IsPermutation-trans (ps ++ p ∷ more) (p ∷ (ps ++ more)) (put p (joined ps more)) (IsPermutation-middle ps p more)
    (IsPermutation-trans (p ∷ (ps ++ more)) (p ∷ joined ps more) (put p (joined ps more)) (IsPermutation-cons p (ps ++ more) (joined ps more) rest) (put_permutes p (joined ps more) none))

pub Ascends-joined : (ps more : List KeyValue) → Ascends ps → Ascends (joined ps more)
Ascends-joined ps [] up = up
Ascends-joined ps (p ∷ more) up = Ascends-insert p.0 p.1 (joined ps more) (Ascends-joined ps more up)

-- pairs that are a context's in some order, joined one by one
in_order : (ps c : List KeyValue) → Distinct ps → IsPermutation ps c → Ascends c → joined [] ps ≡ c
in_order ps c distinct same up =
    let permuted : IsPermutation ps (joined [] ps) = joined_permutes [] ps distinct (λ k d lt. refl) in
    let forth : IsPermutation (joined [] ps) c = IsPermutation-trans (joined [] ps) ps c (IsPermutation-sym ps (joined [] ps) permuted) same in
    same_ascending (joined [] ps) c (Ascends-joined [] ps tt) up
    (λ x h. Contains-permutation (joined [] ps) c x forth h) (λ x h. Contains-permutation c (joined [] ps) x (IsPermutation-sym (joined [] ps) c forth) h)

pub stored_is : (bytes : List ℕ) (c : List KeyValue) → SpellsContext bytes c → stored_in bytes ≡ c
unfolding stored_in
stored_is bytes c spells =
    let distinct = distinct_from spells.pairs (distinct_from_once spells.pairs (once_spelled bytes c spells)) in
    rw spells.spelled (in_order spells.pairs c distinct spells.same (ascends_from c spells.ascending))
