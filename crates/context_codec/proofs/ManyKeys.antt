-- Many keys put into a set at once: sorted, and each of them kept once.
use Rattle.std.proofs.Common.{◌≡◌, inl, inr, ℕ, ◌+◌, ◌<◌, true, List, [], ◌∷◌, ◌++◌, length, get_or, take, refl, sym, ap, subst, ◌∙◌, arith}
use Rattle.std.specs.Prelude.{Contains, nat_eq}
use Rattle.std.specs.List.{AllByRecursion, list_all, dedup}
use Rattle.std.specs.List.Sorted.{IsPermutation, IsSorted, IsStrictlySortedBy}
use Rattle.std.specs.Cmp.Lexicographic.{pointwise, texts_ties, bytes_decides}
use Rattle.std.specs.Str.{IsUtf8, is_utf8}
use Rattle.std.specs.declared.cmp.Ordering.TheVariants.{Less}
use Rattle.std.proofs.lemmas.Cmp.{nat_list_cmp_total, nat_list_eq_equiv}
use Rattle.std.proofs.lemmas.Bool.{and_from}
use Rattle.std.proofs.lemmas.Str.{is_utf8-from_IsUtf8}
use Rattle.std.proofs.lemmas.List.Folds.{list_all_more}
use Rattle.std.proofs.lemmas.List.Elements.{All-from_recursion, All-contains}
use Rattle.std.proofs.lemmas.List.Kept.{IsStrictlySortedBy-dedup, Contains-dedup, Contains-from_dedup}
use Rattle.std.proofs.lemmas.List.Sorted.{IsPermutation-sym, Contains-permutation}
use Rattle.std.proofs.lemmas.Map.Text.{is_eq-slice_cmp}
use Rattle.context_codec.specs.KeySet.{AreAscendingKeys, IsKeySet, has, with_key, with_keys}
use Rattle.context_codec.proofs.Keys.{key_cmp, less_other}
use Rattle.context_codec.proofs.Members.{Contains-head, Contains-tail, Contains-cases, Contains-nil}
use Rattle.context_codec.proofs.KeySets.{AreAscendingKeys-with_keys, IsKeySet-with_keys, Contains-from_has, has-from_Contains, has-with_keys, sorted_keys, with_keys-from_nil}

-- ---- ascending lists of the same keys

above_all : (k : List ℕ) (ks : List (List ℕ)) (x : List ℕ) → AllByRecursion (λ y. key_cmp k y ≡ Less) ks → Contains ks x → key_cmp k x ≡ Less
above_all k ks x all listed = All-contains (λ y. key_cmp k y ≡ Less) ks x (All-from_recursion (λ y. key_cmp k y ≡ Less) ks all) listed

not_both : (a b : List ℕ) → key_cmp a b ≡ Less → key_cmp b a ≡ Less → ⊥
not_both a b less more = less_other a a (nat_list_cmp_total.trans a b a less more) refl

-- the first keys are the same
same_first : (k : List ℕ) (ks : List (List ℕ)) (j : List ℕ) (js : List (List ℕ)) → IsStrictlySortedBy key_cmp (k ∷ ks) → IsStrictlySortedBy key_cmp (j ∷ js) → Contains (j ∷ js) k → Contains (k ∷ ks) j → k ≡ j
unfolding IsStrictlySortedBy
same_first k ks j js up up' k_in j_in =
    elim (Contains-cases j js k k_in) [
      | inl is ↦ sym is
      | inr later ↦
          elim (Contains-cases k ks j j_in) [
            | inl is ↦ is
            | inr later' ↦ absurd (not_both k j (above_all k ks j up.0 later') (above_all j js k up'.0 later))
          ]
    ]

-- what stands behind the first of one list stands behind that of the other
tail_moves : (k : List ℕ) (ks js : List (List ℕ)) (x : List ℕ) → IsStrictlySortedBy key_cmp (k ∷ ks) → Contains ks x → Contains (k ∷ js) x → Contains js x
unfolding IsStrictlySortedBy
tail_moves k ks js x up later listed =
    elim (Contains-cases k js x listed) [
      | inl is ↦ absurd (less_other k x (above_all k ks x up.0 later) is)
      | inr there ↦ there
    ]

same_sorted : (ks js : List (List ℕ)) → IsStrictlySortedBy key_cmp ks → IsStrictlySortedBy key_cmp js → ((x : List ℕ) → Contains ks x → Contains js x) → ((x : List ℕ) → Contains js x → Contains ks x) → ks ≡ js
unfolding IsStrictlySortedBy
same_sorted [] [] up up' forth back = refl
same_sorted [] (j ∷ js) up up' forth back = absurd (Contains-nil j (back j (Contains-head j js)))
same_sorted (k ∷ ks) [] up up' forth back = absurd (Contains-nil k (forth k (Contains-head k ks)))
same_sorted (k ∷ ks) (j ∷ js) up up' forth back =
    let first : k ≡ j = same_first k ks j js up up' (forth k (Contains-head k ks)) (back j (Contains-head j js)) in
    let rest : ks ≡ js = same_sorted ks js up.1 up'.1
    (λ x h. tail_moves k ks js x up h (subst (λ (r : List ℕ). Contains (r ∷ js) x) (sym first) (forth x (Contains-tail k ks x h))))
    (λ x h. tail_moves j js ks x up' h (subst (λ (r : List ℕ). Contains (r ∷ ks) x) first (back x (Contains-tail j js x h)))) in
    ap (λ (r : List ℕ). r ∷ ks) first ∙ ap (λ (rs : List (List ℕ)). j ∷ rs) rest

-- ---- the set of many keys

equal_texts : (a b : List ℕ) → pointwise nat_eq a b ≡ true → a ≡ b
equal_texts a b e = (bytes_decides a b).0 (sym (is_eq-slice_cmp a b) ∙ sym (texts_ties a b) ∙ e)

no_keys : IsKeySet []
no_keys = record { ascending = λ k d lt. absurd (omega arith); texts = refl }

pub sorted_once : (keys sorted : List (List ℕ)) → IsPermutation keys sorted → IsSorted key_cmp sorted → dedup (pointwise nat_eq) sorted ≡ with_keys [] keys
sorted_once keys sorted same up =
    same_sorted (dedup (pointwise nat_eq) sorted) (with_keys [] keys)
    (IsStrictlySortedBy-dedup nat_list_cmp_total texts_ties sorted up)
    (sorted_keys (with_keys [] keys) (AreAscendingKeys-with_keys [] keys no_keys.ascending))
    (λ x listed.
    let given : Contains keys x = Contains-permutation sorted keys x (IsPermutation-sym keys sorted same) (Contains-from_dedup (pointwise nat_eq) sorted x listed) in
    Contains-from_has (with_keys [] keys) x (has-with_keys [] keys x ∙ has-from_Contains keys x given))
    (λ x listed.
    let held : has keys x ≡ true = sym (has-with_keys [] keys x) ∙ has-from_Contains (with_keys [] keys) x listed in
    let there : Contains sorted x = Contains-permutation keys sorted x same (Contains-from_has keys x held) in
    Contains-dedup nat_list_eq_equiv equal_texts sorted x there)

-- one more key is a text
pub texts_more : (keys : List (List ℕ)) (i : ℕ) (key : List ℕ) → i < length keys → key ≡ get_or keys i key → IsUtf8 key → list_all is_utf8 (take i keys) ≡ true → list_all is_utf8 (take (i + 1) keys) ≡ true
texts_more keys i key lt at text so_far =
    let here : is_utf8 (get_or keys i key) ≡ true = subst (λ (k : List ℕ). is_utf8 k ≡ true) at (is_utf8-from_IsUtf8 key text) in
    list_all_more is_utf8 keys i key lt ∙ and_from (list_all is_utf8 (take i keys)) (is_utf8 (get_or keys i key)) so_far here

pub set_of_many : (keys : List (List ℕ)) → list_all is_utf8 keys ≡ true → IsKeySet (with_keys [] keys)
set_of_many keys texts = IsKeySet-with_keys [] keys no_keys texts

-- ---- two sets

with_keys-append : (keys more last : List (List ℕ)) → with_keys keys (more ++ last) ≡ with_keys (with_keys keys more) last
with_keys-append keys [] last = refl
with_keys-append keys (k ∷ more) last = with_keys-append (with_key keys k) more last

-- the keys of a set, and more keys, put into the empty set
pub both_sets : (keys more : List (List ℕ)) → AreAscendingKeys keys → with_keys [] (keys ++ more) ≡ with_keys keys more
both_sets keys more up = with_keys-append [] keys more ∙ ap (λ (ks : List (List ℕ)). with_keys ks more) (with_keys-from_nil keys up)
