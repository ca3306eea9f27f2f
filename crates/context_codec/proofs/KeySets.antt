-- Sets of keys: what they hold with one more key, and with more of them.
use Rattle.std.proofs.Common.{◌≡◌, ◌↔◌, ◌⊎◌, inl, inr, ℕ, ◌+◌, Bool, true, false, ◌||◌, List, [], ◌∷◌, ◌++◌, get_or, refl, sym, ap, subst, ◌∙◌, append_assoc, arith, Ordering}
use Rattle.std.specs.Prelude.{Contains}
use Rattle.std.specs.List.{AllByRecursion, list_all}
use Rattle.std.specs.List.Sorted.{IsStrictlySortedBy}
use Rattle.std.specs.Ordering.{match_ordering, ordering_reverse}
use Rattle.std.specs.declared.cmp.Ordering.TheVariants.{Less, Equal, Greater}
use Rattle.std.specs.Str.{bytes_eq, is_utf8}
use Rattle.std.specs.Cmp.Lexicographic.{bytes_decides}
use Rattle.std.proofs.lemmas.Cmp.{nat_list_cmp_total}
use Rattle.std.proofs.lemmas.Bool.{or_cases, or_left, or_right, and_parts}
use Rattle.std.proofs.lemmas.List.{append-nil, get_or-map, length-map}
use Rattle.std.proofs.lemmas.List.Elements.{All-from_recursion, recursion_from_All}
use Rattle.std.proofs.lemmas.List.Sums.{AllPass-from_list_all, list_all-from_AllPass}
use Rattle.std.proofs.lemmas.Map.Keys.{Less-from_sorted, sorted_from_all_adjacent}
use Rattle.context_codec.specs.Context.{KeyValue, IsAscending}
use Rattle.context_codec.specs.Parts.{keys_of}
use Rattle.context_codec.specs.KeySet.{AreAscendingKeys, IsKeySet, has, with_key, with_keys}
use Rattle.context_codec.proofs.Keys.{key_cmp, equal_same, greater_less}
use Rattle.context_codec.proofs.Members.{passes_from, list_any-from}

-- ---- what a set with one more key holds

or_twice : (a b : Bool) → (a || b) ≡ (a || (a || b))
or_twice true b = refl
or_twice false b = refl

or_turns : (a b c : Bool) → (a || (b || c)) ≡ (b || (a || c))
or_turns true true c = refl
or_turns true false c = refl
or_turns false b c = refl

-- A set with one more key holds that key and the others, and no more.
pub has-with_key : (keys : List (List ℕ)) (key other : List ℕ) → has (with_key keys key) other ≡ (bytes_eq other key || has keys other)
unfolding with_key
has-with_key [] key other = refl
has-with_key (k ∷ keys) key other = by_order (key_cmp key k) refl (has-with_key keys key other)
  where
    by_order : (o : Ordering) → o ≡ key_cmp key k → has (with_key keys key) other ≡ (bytes_eq other key || has keys other)
        → has (match_ordering o (key ∷ k ∷ keys) (k ∷ keys) (k ∷ with_key keys key)) other ≡ (bytes_eq other key || (bytes_eq other k || has keys other))
    by_order Less is rest = refl
    by_order Equal is rest =
        or_twice (bytes_eq other k) (has keys other) ∙ ap (λ (j : List ℕ). bytes_eq other j || (bytes_eq other k || has keys other)) (sym (equal_same key k (sym is)))
    by_order Greater is rest = ap (λ (b : Bool). bytes_eq other k || b) rest ∙ or_turns (bytes_eq other k) (bytes_eq other key) (has keys other)

or_false : (a : Bool) → a ≡ (a || false)
or_false true = refl
or_false false = refl

or_moves : (a b c : Bool) → ((b || a) || c) ≡ (a || (b || c))
or_moves true true c = refl
or_moves true false c = refl
or_moves false true c = refl
or_moves false false c = refl

-- A set with more keys holds its own and these, and no more.
pub has-with_keys : (keys more : List (List ℕ)) (key : List ℕ) → has (with_keys keys more) key ≡ (has keys key || has more key)
has-with_keys keys [] key = or_false (has keys key)
has-with_keys keys (k ∷ more) key =
    has-with_keys (with_key keys k) more key ∙ ap (λ (b : Bool). b || has more key) (has-with_key keys k key)
    ∙ or_moves (has keys key) (bytes_eq key k) (has more key)

pub has-from_Contains : (keys : List (List ℕ)) (key : List ℕ) → Contains keys key → has keys key ≡ true
has-from_Contains keys key listed = list_any-from (bytes_eq key) keys key listed ((bytes_decides key key).1 refl)

pub Contains-from_has : (keys : List (List ℕ)) (key : List ℕ) → has keys key ≡ true → Contains keys key
Contains-from_has keys key e =
    let found = passes_from (bytes_eq key) keys e in
    subst (λ (k : List ℕ). Contains keys k) (sym ((bytes_decides key found.at).0 found.passing)) found.listed

-- the same by what is listed
pub Contains-with_key : (keys : List (List ℕ)) (key other : List ℕ) → Contains (with_key keys key) other ↔ ((other ≡ key) ⊎ Contains keys other)
Contains-with_key keys key other = (λ h. forth (sym (has-with_key keys key other) ∙ has-from_Contains (with_key keys key) other h), λ h. back h)
  where
    forth : (bytes_eq other key || has keys other) ≡ true → (other ≡ key) ⊎ Contains keys other
    forth e =
        elim (or_cases (bytes_eq other key) (has keys other) e) [
          | inl same ↦ inl ((bytes_decides other key).0 same)
          | inr held ↦ inr (Contains-from_has keys other held)
        ]

    back : (other ≡ key) ⊎ Contains keys other → Contains (with_key keys key) other
    back (inl same) =
        Contains-from_has (with_key keys key) other (has-with_key keys key other ∙ or_left (bytes_eq other key) (has keys other) ((bytes_decides other key).1 same))
    back (inr listed) =
        Contains-from_has (with_key keys key) other (has-with_key keys key other ∙ or_right (bytes_eq other key) (has keys other) (has-from_Contains keys other listed))

-- ---- what it keeps

pub AllByRecursion-with_key : (P : List ℕ → Type 0) (keys : List (List ℕ)) (key : List ℕ) → AllByRecursion P keys → P key → AllByRecursion P (with_key keys key)
unfolding with_key
AllByRecursion-with_key P [] key all here = (here, tt)
AllByRecursion-with_key P (k ∷ keys) key all here = by_order (key_cmp key k) (AllByRecursion-with_key P keys key all.1 here)
  where
    by_order : (o : Ordering) → AllByRecursion P (with_key keys key) → AllByRecursion P (match_ordering o (key ∷ k ∷ keys) (k ∷ keys) (k ∷ with_key keys key))
    by_order Less rest = (here, all)
    by_order Equal rest = all
    by_order Greater rest = (all.0, rest)

abbrev KeysAbove : List ℕ → List (List ℕ) → Type 0
KeysAbove key keys = AllByRecursion (λ k. key_cmp key k ≡ Less) keys

all_above_lower : (a b : List ℕ) (keys : List (List ℕ)) → key_cmp a b ≡ Less → KeysAbove b keys → KeysAbove a keys
all_above_lower a b [] less above = tt
all_above_lower a b (k ∷ keys) less above = (nat_list_cmp_total.trans a b k less above.0, all_above_lower a b keys less above.1)

sorted-with_key : (keys : List (List ℕ)) (key : List ℕ) → IsStrictlySortedBy key_cmp keys → IsStrictlySortedBy key_cmp (with_key keys key)
unfolding with_key IsStrictlySortedBy
sorted-with_key [] key up = (tt, tt)
sorted-with_key (k ∷ keys) key up = by_order (key_cmp key k) refl (sorted-with_key keys key up.1)
  where
    by_order : (o : Ordering) → o ≡ key_cmp key k → IsStrictlySortedBy key_cmp (with_key keys key) → IsStrictlySortedBy key_cmp (match_ordering o (key ∷ k ∷ keys) (k ∷ keys) (k ∷ with_key keys key))
    by_order Less is rest = ((sym is, all_above_lower key k keys (sym is) up.0), up)
    by_order Equal is rest = up
    by_order Greater is rest = (AllByRecursion-with_key (λ j. key_cmp k j ≡ Less) keys key up.0 (greater_less key k (sym is)), rest)

pub sorted_keys : (keys : List (List ℕ)) → AreAscendingKeys keys → IsStrictlySortedBy key_cmp keys
sorted_keys keys up = sorted_from_all_adjacent nat_list_cmp_total keys [] (λ k lt. up k [] lt)

pub AreAscendingKeys-with_key : (keys : List (List ℕ)) (key : List ℕ) → AreAscendingKeys keys → AreAscendingKeys (with_key keys key)
AreAscendingKeys-with_key keys key up k d lt =
    Less-from_sorted key_cmp (with_key keys key) k (k + 1) d (sorted-with_key keys key (sorted_keys keys up)) (omega arith) lt

pub AreAscendingKeys-with_keys : (keys more : List (List ℕ)) → AreAscendingKeys keys → AreAscendingKeys (with_keys keys more)
AreAscendingKeys-with_keys keys [] up = up
AreAscendingKeys-with_keys keys (k ∷ more) up = AreAscendingKeys-with_keys (with_key keys k) more (AreAscendingKeys-with_key keys k up)

-- one more text leaves a key set
pub IsKeySet-with_key : (keys : List (List ℕ)) (key : List ℕ) → IsKeySet keys → is_utf8 key ≡ true → IsKeySet (with_key keys key)
IsKeySet-with_key keys key set text =
    let all = recursion_from_All (λ k. is_utf8 k ≡ true) keys (AllPass-from_list_all is_utf8 keys set.texts) in
    record {
      ascending = AreAscendingKeys-with_key keys key set.ascending;
      texts = list_all-from_AllPass is_utf8 (with_key keys key) (All-from_recursion (λ k. is_utf8 k ≡ true) (with_key keys key) (AllByRecursion-with_key (λ k. is_utf8 k ≡ true) keys key all text));
    }

pub IsKeySet-with_keys : (keys more : List (List ℕ)) → IsKeySet keys → list_all is_utf8 more ≡ true → IsKeySet (with_keys keys more)
IsKeySet-with_keys keys [] set texts = set
IsKeySet-with_keys keys (k ∷ more) set texts =
    let parts = and_parts (is_utf8 k) (list_all is_utf8 more) texts in
    IsKeySet-with_keys (with_key keys k) more (IsKeySet-with_key keys k set parts.0) parts.1

-- ---- no more keys, and all of them

pub with_keys-nil : (keys : List (List ℕ)) → with_keys keys [] ≡ keys
with_keys-nil keys = refl

-- a key above all others comes last
with_key_last : (front : List (List ℕ)) (key : List ℕ) (more : List (List ℕ)) → IsStrictlySortedBy key_cmp (front ++ key ∷ more) → with_key front key ≡ front ++ key ∷ []
unfolding with_key IsStrictlySortedBy
with_key_last [] key more up = refl
with_key_last (k ∷ front) key more up =
    let greater : key_cmp key k ≡ Greater = nat_list_cmp_total.antisymm key k ∙ ap ordering_reverse (below_later front up.0) in
    rw greater (ap (λ (ks : List (List ℕ)). k ∷ ks) (with_key_last front key more up.1))
  where
    below_later : (front : List (List ℕ)) → KeysAbove k (front ++ key ∷ more) → key_cmp k key ≡ Less
    below_later [] above = above.0
    below_later (j ∷ front) above = below_later front above.1

with_keys_behind : (front more : List (List ℕ)) → IsStrictlySortedBy key_cmp (front ++ more) → with_keys front more ≡ front ++ more
with_keys_behind front [] up = sym (append-nil front)
with_keys_behind front (k ∷ more) up =
    let regrouped : (front ++ k ∷ []) ++ more ≡ front ++ k ∷ more = append_assoc front (k ∷ []) more in
    ap (λ (ks : List (List ℕ)). with_keys ks more) (with_key_last front k more up)
    ∙ with_keys_behind (front ++ k ∷ []) more (subst (IsStrictlySortedBy key_cmp) (sym regrouped) up) ∙ regrouped

-- the keys of a set, put one by one into the empty set
pub with_keys-from_nil : (keys : List (List ℕ)) → AreAscendingKeys keys → with_keys [] keys ≡ keys
with_keys-from_nil keys up = with_keys_behind [] keys (sorted_keys keys up)

-- ---- the keys of a context

-- the keys of pairs that ascend by their keys ascend
pub AreAscendingKeys-keys_of : (pairs : List KeyValue) → IsAscending pairs → AreAscendingKeys (keys_of pairs)
AreAscendingKeys-keys_of pairs up k d lt =
    let first : get_or (keys_of pairs) k d ≡ (get_or pairs k (d, d)).0 = get_or-map (λ (p : KeyValue). p.0) pairs k (d, d) d (omega (arith, length-map pairs (λ (p : KeyValue). p.0))) in
    let second : get_or (keys_of pairs) (k + 1) d ≡ (get_or pairs (k + 1) (d, d)).0 = get_or-map (λ (p : KeyValue). p.0) pairs (k + 1) (d, d) d (omega (arith, length-map pairs (λ (p : KeyValue). p.0))) in
    rw (first, second) (up k (d, d) (omega (arith, length-map pairs (λ (p : KeyValue). p.0))))
