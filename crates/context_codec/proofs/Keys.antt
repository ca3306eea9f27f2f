-- The order of keys.
use Rattle.std.proofs.Common.{◌≡◌, ◌≢◌, ℕ, zero, suc, ◌+◌, ◌<◌, true, false, List, [], ◌∷◌, ◌++◌, length, get_or, take, drop, refl, sym, ap, subst, ◌∙◌, append_assoc, suc-add, arith, Ordering}
use Rattle.std.specs.List.{list_any}
use Rattle.std.specs.BTreeMap.{insert_entry}
use Rattle.std.specs.Ordering.{nat_cmp, is_eq, match_ordering, ordering_reverse}
use Rattle.std.specs.declared.cmp.Ordering.TheVariants.{Less, Equal, Greater}
use Rattle.std.specs.Cmp.Lexicographic.{slice_cmp, bytes_decides}
use Rattle.std.specs.Str.{bytes_eq}
use Rattle.std.proofs.lemmas.Cmp.{nat_list_cmp_total, tied_itself}
use Rattle.std.proofs.lemmas.Bool.{false_from_ne_true, or_from}
use Rattle.std.proofs.lemmas.List.{drop_more, take_more, take-append-drop, drop_all, take_all}
use Rattle.std.proofs.lemmas.List.Folds.{list_any_more, list_any-append, list_any_at}
use Rattle.std.proofs.lemmas.Map.Text.{is_eq-slice_cmp}
use Rattle.context_codec.specs.Context.{KeyValue, KeyLess, IsAscending, has_key}
use Rattle.context_codec.specs.Placing.{IsPlace}

-- the order of two keys
abbrev pub key_cmp : List ℕ → List ℕ → Ordering
key_cmp = slice_cmp nat_cmp

pub less_other : (a b : List ℕ) → key_cmp a b ≡ Less → a ≢ b
less_other a b less same =
    let tied : key_cmp a a ≡ Equal = tied_itself nat_list_cmp_total a in
    let alike : key_cmp a a ≡ Less = subst (λ (k : List ℕ). key_cmp a k ≡ Less) (sym same) less in
    cc

pub greater_less : (a b : List ℕ) → key_cmp a b ≡ Greater → key_cmp b a ≡ Less
greater_less a b greater = nat_list_cmp_total.antisymm b a ∙ ap ordering_reverse greater

pub equal_same : (a b : List ℕ) → key_cmp a b ≡ Equal → a ≡ b
equal_same a b equal = (bytes_decides a b).0 (sym (is_eq-slice_cmp a b) ∙ ap is_eq equal)

-- ---- ascending lists, by their first pair

-- the first of the pairs, if there is one, is above the key
abbrev pub StartsAbove : List ℕ → List KeyValue → Type 0
StartsAbove key [] = Unit {0}
StartsAbove key (p ∷ ps) = key_cmp key p.0 ≡ Less

abbrev pub Ascends : List KeyValue → Type 0
Ascends [] = Unit {0}
Ascends (p ∷ ps) = StartsAbove p.0 ps × Ascends ps

pub ascends_from : (ps : List KeyValue) → IsAscending ps → Ascends ps
ascends_from [] h = tt
ascends_from (p ∷ []) h = (tt, tt)
ascends_from (p ∷ q ∷ ps) h =
    (h 0 p (omega arith), ascends_from (q ∷ ps) (λ k d lt. subst (λ (j : ℕ). KeyLess (get_or (q ∷ ps) k d) (get_or (p ∷ q ∷ ps) j d)) (suc-add k 1) (h (suc k) d (omega arith))))

pub ascending_from : (ps : List KeyValue) → Ascends ps → IsAscending ps
ascending_from [] h k d lt = absurd (omega arith)
ascending_from (p ∷ []) h k d lt = absurd (omega arith)
ascending_from (p ∷ q ∷ ps) h zero d lt = h.0
ascending_from (p ∷ q ∷ ps) h (suc k) d lt =
    subst (λ (j : ℕ). KeyLess (get_or (q ∷ ps) k d) (get_or (p ∷ q ∷ ps) j d)) (sym (suc-add k 1)) (ascending_from (q ∷ ps) h.1 k d (omega arith))

pub starts_above : (a b : List ℕ) (ps : List KeyValue) → key_cmp a b ≡ Less → StartsAbove b ps → StartsAbove a ps
starts_above a b [] less h = tt
starts_above a b (p ∷ ps) less h = nat_list_cmp_total.trans a b p.0 less h

pub Ascends-drop : (i : ℕ) (ps : List KeyValue) → Ascends ps → Ascends (drop i ps)
Ascends-drop zero ps up = up
Ascends-drop (suc i) [] up = tt
Ascends-drop (suc i) (p ∷ ps) up = Ascends-drop i ps up.1

-- a key below the first is no key of the list
pub below_absent : (key : List ℕ) (ps : List KeyValue) → StartsAbove key ps → Ascends ps → list_any (has_key key) ps ≡ false
below_absent key [] above up = refl
below_absent key (p ∷ ps) above up =
    or_from (bytes_eq key p.0) (list_any (has_key key) ps) (false_from_ne_true (bytes_eq key p.0) (λ e. less_other key p.0 above ((bytes_decides key p.0).0 e)))
    (below_absent key ps (starts_above key p.0 ps above up.0) up.1)

-- ---- one more pair

pub StartsAbove-insert : (low key value : List ℕ) (ps : List KeyValue) → key_cmp low key ≡ Less → StartsAbove low ps → StartsAbove low (insert_entry key_cmp ps key value)
StartsAbove-insert low key value [] less above = less
StartsAbove-insert low key value (p ∷ ps) less above = by_order (key_cmp key p.0)
  where
    by_order : (o : Ordering) → StartsAbove low (match_ordering o ((key, value) ∷ p ∷ ps) ((p.0, value) ∷ ps) (p ∷ insert_entry key_cmp ps key value))
    by_order Less = less
    by_order Equal = above
    by_order Greater = above

Ascends-placed : (key value : List ℕ) (p : KeyValue) (ps : List KeyValue) (o : Ordering) → o ≡ key_cmp key p.0 → Ascends (p ∷ ps) → Ascends (insert_entry key_cmp ps key value)
    → Ascends (match_ordering o ((key, value) ∷ p ∷ ps) ((p.0, value) ∷ ps) (p ∷ insert_entry key_cmp ps key value))
Ascends-placed key value p ps Less is up rest = (sym is, up)
Ascends-placed key value p ps Equal is up rest = up
Ascends-placed key value p ps Greater is up rest = (StartsAbove-insert p.0 key value ps (greater_less key p.0 (sym is)) up.0, rest)

pub Ascends-insert : (key value : List ℕ) (ps : List KeyValue) → Ascends ps → Ascends (insert_entry key_cmp ps key value)
Ascends-insert key value [] up = (tt, tt)
Ascends-insert key value (p ∷ ps) up = Ascends-placed key value p ps (key_cmp key p.0) refl up (Ascends-insert key value ps up.1)

pub IsAscending-insert : (key value : List ℕ) (ps : List KeyValue) → IsAscending ps → IsAscending (insert_entry key_cmp ps key value)
IsAscending-insert key value ps up = ascending_from (insert_entry key_cmp ps key value) (Ascends-insert key value ps (ascends_from ps up))

-- ---- the place of a new key

-- All pairs before the index have keys below the key.
pub record Passed (key : List ℕ) (ps : List KeyValue) (i : ℕ) : Type 0 where
  pub absent : list_any (has_key key) (take i ps) ≡ false
  pub inserted : (value : List ℕ) → insert_entry key_cmp ps key value ≡ take i ps ++ insert_entry key_cmp (drop i ps) key value

pub passed_none : (key : List ℕ) (ps : List KeyValue) → Passed key ps 0
passed_none key ps = record { absent = refl; inserted = λ value. refl }

-- the entry at the index, and those from it on
pub inserted_at : (key value : List ℕ) (ps : List KeyValue) (i : ℕ) (p : KeyValue) (o : Ordering) → i < length ps → p ≡ get_or ps i p → o ≡ key_cmp key p.0
    → insert_entry key_cmp (drop i ps) key value ≡ match_ordering o ((key, value) ∷ drop i ps) ((p.0, value) ∷ drop (i + 1) ps) (p ∷ insert_entry key_cmp (drop (i + 1) ps) key value)
inserted_at key value ps i p o lt at is =
    let split : drop i ps ≡ p ∷ drop (i + 1) ps = drop_more ps i p lt ∙ ap (λ (q : KeyValue). q ∷ drop (i + 1) ps) (sym at) in
    ap (λ (qs : List KeyValue). insert_entry key_cmp qs key value) split
    ∙ ap (λ (r : Ordering). match_ordering r ((key, value) ∷ p ∷ drop (i + 1) ps) ((p.0, value) ∷ drop (i + 1) ps) (p ∷ insert_entry key_cmp (drop (i + 1) ps) key value)) (sym is)
    ∙ ap (λ (qs : List KeyValue). match_ordering o ((key, value) ∷ qs) ((p.0, value) ∷ drop (i + 1) ps) (p ∷ insert_entry key_cmp (drop (i + 1) ps) key value)) (sym split)

-- the pair at the index has a lower key: it is passed
pub passed_more : (key : List ℕ) (ps : List KeyValue) (i : ℕ) (p : KeyValue) → i < length ps → p ≡ get_or ps i p → key_cmp key p.0 ≡ Greater → Passed key ps i → Passed key ps (i + 1)
passed_more key ps i p lt at greater so_far =
    let other : bytes_eq key p.0 ≡ false = false_from_ne_true (bytes_eq key p.0) (λ e. less_other p.0 key (greater_less key p.0 greater) (sym ((bytes_decides key p.0).0 e))) in
    let taken : take (i + 1) ps ≡ take i ps ++ p ∷ [] = take_more ps i p lt ∙ ap (λ (q : KeyValue). take i ps ++ q ∷ []) (sym at) in
    record {
      absent = list_any_more (has_key key) ps i p lt ∙ or_from (list_any (has_key key) (take i ps)) (has_key key (get_or ps i p)) so_far.absent (subst (λ (q : KeyValue). bytes_eq key q.0 ≡ false) at other);
      inserted = λ value.
          so_far.inserted value ∙ ap (λ (qs : List KeyValue). take i ps ++ qs) (inserted_at key value ps i p Greater lt at (sym greater))
          ∙ sym (append_assoc (take i ps) (p ∷ []) (insert_entry key_cmp (drop (i + 1) ps) key value))
          ∙ ap (λ (qs : List KeyValue). qs ++ insert_entry key_cmp (drop (i + 1) ps) key value) (sym taken);
    }

-- the pair at the index has a higher key
pub place_before : (key : List ℕ) (ps : List KeyValue) (i : ℕ) (p : KeyValue) → i < length ps → p ≡ get_or ps i p → key_cmp key p.0 ≡ Less → IsAscending ps → Passed key ps i → IsPlace key ps i
place_before key ps i p lt at less up so_far =
    let split : drop i ps ≡ p ∷ drop (i + 1) ps = drop_more ps i p lt ∙ ap (λ (q : KeyValue). q ∷ drop (i + 1) ps) (sym at) in
    let above : StartsAbove key (drop i ps) = subst (λ (qs : List KeyValue). StartsAbove key qs) (sym split) less in
    let rest : list_any (has_key key) (drop i ps) ≡ false = below_absent key (drop i ps) above (Ascends-drop i ps (ascends_from ps up)) in
    record {
      within = omega arith;
      absent = ap (list_any (has_key key)) (sym (take-append-drop i ps)) ∙ list_any-append (has_key key) (take i ps) (drop i ps) ∙ or_from (list_any (has_key key) (take i ps)) (list_any (has_key key) (drop i ps)) so_far.absent rest;
      inserted = λ value. so_far.inserted value ∙ ap (λ (qs : List KeyValue). take i ps ++ qs) (inserted_at key value ps i p Less lt at (sym less));
    }

-- all keys are lower
pub place_end : (key : List ℕ) (ps : List KeyValue) (i : ℕ) → i ≡ length ps → Passed key ps i → IsPlace key ps i
place_end key ps i end so_far =
    let none : drop i ps ≡ [] = drop_all i ps (omega arith) in
    record {
      within = omega arith;
      absent = ap (list_any (has_key key)) (sym (take_all i ps (omega arith))) ∙ so_far.absent;
      inserted = λ value. so_far.inserted value ∙ ap (λ (qs : List KeyValue). take i ps ++ insert_entry key_cmp qs key value) none ∙ ap (λ (qs : List KeyValue). take i ps ++ (key, value) ∷ qs) (sym none);
    }

-- the pair at the index has the key
pub key_there : (key : List ℕ) (ps : List KeyValue) (i : ℕ) (p : KeyValue) → i < length ps → p ≡ get_or ps i p → key_cmp key p.0 ≡ Equal → list_any (has_key key) ps ≡ true
key_there key ps i p lt at tied =
    let same : bytes_eq key p.0 ≡ true = sym (is_eq-slice_cmp key p.0) ∙ ap is_eq tied in
    list_any_at (has_key key) ps i p lt (subst (λ (q : KeyValue). bytes_eq key q.0 ≡ true) at same)
