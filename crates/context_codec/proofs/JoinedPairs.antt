-- The pairs of two contexts in one.
use Rattle.std.proofs.Common.{◌≡◌, ◌≢◌, ℕ, ◌+◌, ◌≤◌, true, false, List, ◌++◌, length, get_or, refl, sym, ap, subst, ◌∙◌, arith, Ordering}
use Rattle.std.specs.Prelude.{All}
use Rattle.std.specs.List.Sorted.{IsPermutation}
use Rattle.std.specs.Ordering.{is_lt, ordering_reverse}
use Rattle.std.specs.declared.cmp.Ordering.TheVariants.{Less, Equal, Greater}
use Rattle.std.proofs.lemmas.Bool.{and_from}
use Rattle.std.proofs.lemmas.Cmp.{nat_list_cmp_total}
use Rattle.std.proofs.lemmas.List.Folds.{list_all-append}
use Rattle.std.proofs.lemmas.List.Sums.{sum_by-append}
use Rattle.std.proofs.lemmas.List.Sorted.{IsPermutation-sym, IsPermutation-trans, Contains-permutation, sum_by-IsPermutation}
use Rattle.context_codec.specs.Context.{KeyValue, is_text_pair, are_texts, IsAscending, pair_text, ctx_text, IsContext}
use Rattle.context_codec.specs.Spelling.{AreDistinct}
use Rattle.context_codec.specs.Found.{IsSortedByKeys}
use Rattle.context_codec.specs.Parts.{holds, joined}
use Rattle.context_codec.proofs.Sizes.{length-ctx_text-le, pairs_len-le}
use Rattle.context_codec.proofs.Keys.{key_cmp, equal_same, Ascends, ascends_from, ascending_from}
use Rattle.context_codec.proofs.Distinct.{distinct_from_ascends, once_from_distinct, distinct_from_once, keys_once-permutation}
use Rattle.context_codec.proofs.FoundContexts.{are_texts-permutation}
use Rattle.context_codec.proofs.OneContext.{same_ascending}
use Rattle.context_codec.proofs.Stored.{joined_permutes, Ascends-joined}

-- ---- appended and sorted

less_from : (a b : List ℕ) (o : Ordering) → o ≡ key_cmp a b → is_lt (ordering_reverse o) ≡ false → a ≢ b → o ≡ Less
less_from a b Less is back ne = refl
less_from a b Equal is back ne = absurd (ne (equal_same a b (sym is)))
less_from a b Greater is back ne = absurd cc

-- sorted pairs with distinct keys ascend
sorted_ascending : (ps : List KeyValue) → IsSortedByKeys ps → AreDistinct ps → IsAscending ps
sorted_ascending ps sorted distinct k d lt =
    let a = (get_or ps k d).0 in
    let b = (get_or ps (k + 1) d).0 in
    let back : is_lt (ordering_reverse (key_cmp a b)) ≡ false = ap is_lt (sym (nat_list_cmp_total.antisymm b a)) ∙ sorted k d (omega arith) lt in
    less_from a b (key_cmp a b) refl back (distinct k (k + 1) d (omega arith) lt)

-- The pairs of both, sorted by their keys, are these joined to those.
pub sorted_joined : (ps more qs : List KeyValue) → Ascends ps → Ascends more → All (λ p. holds ps p.0 ≡ false) more → IsPermutation (ps ++ more) qs → IsSortedByKeys qs → qs ≡ joined ps more
sorted_joined ps more qs up up' apart same sorted =
    let made = joined ps more in
    let made_up : Ascends made = Ascends-joined ps more up in
    let permuted : IsPermutation (ps ++ more) made = joined_permutes ps more (distinct_from_ascends more up') apart in
    let forth : IsPermutation made qs = IsPermutation-trans made (ps ++ more) qs (IsPermutation-sym (ps ++ more) made permuted) same in
    let back : IsPermutation qs made = IsPermutation-sym made qs forth in
    let once = keys_once-permutation made qs forth (once_from_distinct made (distinct_from_ascends made made_up)) in
    let qs_up : Ascends qs = ascends_from qs (sorted_ascending qs sorted (distinct_from_once qs once)) in
    same_ascending qs made qs_up made_up (λ x h. Contains-permutation qs made x back h) (λ x h. Contains-permutation made qs x forth h)

-- ---- the joined context

-- two texts of 65,535 bytes, whose counts become one
pub length-joined-le : (ps more : List KeyValue) → IsContext ps → IsContext more → All (λ p. holds ps p.0 ≡ false) more → length (ctx_text (joined ps more)) ≤ 131072
length-joined-le ps more context context' apart =
    let permuted = joined_permutes ps more (distinct_from_ascends more (ascends_from more context'.ascending)) apart in
    omega (arith, length-ctx_text-le (joined ps more), sum_by-IsPermutation (λ p. length (pair_text p)) (ps ++ more) (joined ps more) permuted, sum_by-append (λ p. length (pair_text p)) ps more, pairs_len-le ps 65535 context.short, pairs_len-le more 65535 context'.short)

pub IsContext-joined : (ps more qs : List KeyValue) → IsContext ps → IsContext more → All (λ p. holds ps p.0 ≡ false) more → qs ≡ joined ps more → length (ctx_text qs) ≤ 65535 → IsContext qs
IsContext-joined ps more qs context context' apart is short =
    let permuted : IsPermutation (ps ++ more) qs =
    subst (IsPermutation (ps ++ more)) (sym is) (joined_permutes ps more (distinct_from_ascends more (ascends_from more context'.ascending)) apart) in
    let texts : are_texts (ps ++ more) ≡ true = list_all-append is_text_pair ps more ∙ and_from (are_texts ps) (are_texts more) context.texts context'.texts in
    record {
      ascending = subst IsAscending (sym is) (ascending_from (joined ps more) (Ascends-joined ps more (ascends_from ps context.ascending)));
      texts = are_texts-permutation (ps ++ more) qs permuted texts;
      short = short;
    }
