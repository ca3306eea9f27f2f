-- Keys that stand once.
use Rattle.std.proofs.Common.{◌≡◌, ◌≢◌, ℕ, zero, suc, ◌+◌, ◌<◌, ◌≤◌, Bool, true, false, cond, eqb, List, [], ◌∷◌, length, get_or, take, refl, sym, subst, arith}
use Rattle.std.specs.Prelude.{All, count_by}
use Rattle.std.specs.List.{list_any}
use Rattle.std.specs.List.Sorted.{IsPermutation}
use Rattle.std.specs.Cmp.Lexicographic.{bytes_decides}
use Rattle.std.proofs.lemmas.Bool.{false_from_ne_true, or_parts, or_from, eqb-true}
use Rattle.std.proofs.lemmas.List.{take-take}
use Rattle.std.proofs.lemmas.List.Sums.{sum_by-cons, count_by_more_yes, sum_by-take-le, AllPass-from_list_all, list_all-from_AllPass}
use Rattle.std.proofs.lemmas.List.Sorted.{sum_by-IsPermutation, All-permutation}
use Rattle.context_codec.specs.Context.{KeyValue, has_key}
use Rattle.context_codec.specs.Split.{keys_once}
use Rattle.context_codec.specs.Spelling.{AreDistinct}
use Rattle.context_codec.proofs.Keys.{Ascends, below_absent}

pub key_same : (key : List ℕ) (p : KeyValue) → has_key key p ≡ true → key ≡ p.0
key_same key p e = (bytes_decides key p.0).0 e

pub key_has : (key : List ℕ) (p : KeyValue) → key ≡ p.0 → has_key key p ≡ true
key_has key p e = (bytes_decides key p.0).1 e

pub key_other : (key : List ℕ) (p : KeyValue) → key ≢ p.0 → has_key key p ≡ false
key_other key p ne = false_from_ne_true (has_key key p) (λ e. ne (key_same key p e))

-- a pair's key is its own
key_own : (p : KeyValue) → has_key p.0 p ≡ true
key_own p = key_has p.0 p refl

-- ---- by recursion

-- no later pair has the key
abbrev pub Distinct : List KeyValue → Type 0
Distinct [] = Unit {0}
Distinct (p ∷ ps) = (list_any (has_key p.0) ps ≡ false) × Distinct ps

pub distinct_from_ascends : (ps : List KeyValue) → Ascends ps → Distinct ps
distinct_from_ascends [] up = tt
distinct_from_ascends (p ∷ ps) up = (below_absent p.0 ps up.0 up.1, distinct_from_ascends ps up.1)

none_at : (key : List ℕ) (ps : List KeyValue) (k : ℕ) (d : KeyValue) → list_any (has_key key) ps ≡ false → k < length ps → has_key key (get_or ps k d) ≡ false
none_at key [] k d none lt = absurd (omega arith)
none_at key (p ∷ ps) zero d none lt = (or_parts (has_key key p) (list_any (has_key key) ps) none).0
none_at key (p ∷ ps) (suc k) d none lt = none_at key ps k d (or_parts (has_key key p) (list_any (has_key key) ps) none).1 (omega arith)

absent_from : (key : List ℕ) (ps : List KeyValue) → ((k : ℕ) (d : KeyValue) → k < length ps → key ≢ (get_or ps k d).0) → list_any (has_key key) ps ≡ false
absent_from key [] h = refl
absent_from key (p ∷ ps) h = or_from (has_key key p) (list_any (has_key key) ps) (key_other key p (h 0 p (omega arith))) (absent_from key ps (λ k d lt. h (suc k) d (omega arith)))

pub distinct_from : (ps : List KeyValue) → AreDistinct ps → Distinct ps
distinct_from [] h = tt
distinct_from (p ∷ ps) h =
    (absent_from p.0 ps (λ k d lt. h 0 (suc k) d (omega arith) (omega arith)), distinct_from ps (λ i j d lt within. h (suc i) (suc j) d (omega arith) (omega arith)))

-- ---- by counting

abbrev one_if : Bool → ℕ
one_if b = cond b 1 0

count_none : (key : List ℕ) (ps : List KeyValue) → list_any (has_key key) ps ≡ false → count_by (has_key key) ps ≡ 0
count_none key [] none = refl
count_none key (p ∷ ps) none =
    let parts = or_parts (has_key key p) (list_any (has_key key) ps) none in
    let zero_here : one_if (has_key key p) ≡ 0 = rw parts.0 refl in
    omega (arith, sum_by-cons (λ q. cond (has_key key q) 1 0) p ps, zero_here, count_none key ps parts.1)

count_once : (ps : List KeyValue) (k : ℕ) (d : KeyValue) → Distinct ps → k < length ps → count_by (has_key (get_or ps k d).0) ps ≡ 1
count_once [] k d h lt = absurd (omega arith)
count_once (p ∷ ps) zero d h lt =
    let one_here : one_if (has_key p.0 p) ≡ 1 = rw (key_own p) refl in
    omega (arith, sum_by-cons (λ q. cond (has_key p.0 q) 1 0) p ps, one_here, count_none p.0 ps h.0)
count_once (p ∷ ps) (suc k) d h lt =
    let q = get_or ps k d in
    let apart : has_key q.0 p ≡ false = key_other q.0 p (λ e. let same : has_key p.0 q ≡ true = key_has p.0 q (sym e) in let other = none_at p.0 ps k d h.0 (omega arith) in cc) in
    let zero_here : one_if (has_key q.0 p) ≡ 0 = rw apart refl in
    omega (arith, sum_by-cons (λ r. cond (has_key q.0 r) 1 0) p ps, zero_here, count_once ps k d h.1 (omega arith))

-- each key of these pairs stands once among those
abbrev CountsOnce : List KeyValue → KeyValue → Type 0
CountsOnce ps p = eqb (count_by (has_key p.0) ps) 1 ≡ true

pub once_from_distinct : (ps : List KeyValue) → Distinct ps → keys_once ps ≡ true
once_from_distinct ps h =
    list_all-from_AllPass (λ p. eqb (count_by (has_key p.0) ps) 1) ps (λ k d lt. rw (count_once ps k d h lt) refl)

-- what stands at two places is counted twice
pub count_twice : (test : KeyValue → Bool) (ps : List KeyValue) (i j : ℕ) (d : KeyValue) → i < j → j < length ps → test (get_or ps i d) ≡ true → test (get_or ps j d) ≡ true → 2 ≤ count_by test ps
count_twice test ps i j d lt within first second =
    let one = count_by_more_yes test ps i d (omega arith) first in
    let two = count_by_more_yes test ps j d within second in
    let upto : count_by test (take (i + 1) ps) ≤ count_by test (take j ps) =
    subst (λ (qs : List KeyValue). count_by test qs ≤ count_by test (take j ps)) (take-take (i + 1) j ps (omega arith)) (sum_by-take-le (λ p. cond (test p) 1 0) (take j ps) (i + 1)) in
    let all = sum_by-take-le (λ p. cond (test p) 1 0) ps (j + 1) in
    omega (arith, one, two, upto, all)

pub distinct_from_once : (ps : List KeyValue) → keys_once ps ≡ true → AreDistinct ps
distinct_from_once ps once i j d lt within same =
    let key = (get_or ps i d).0 in
    let counted : count_by (has_key key) ps ≡ 1 = eqb-true _ _ (AllPass-from_list_all (λ p. eqb (count_by (has_key p.0) ps) 1) ps once i d (omega arith)) in
    let twice = count_twice (has_key key) ps i j d lt within (key_has key (get_or ps i d) refl) (key_has key (get_or ps j d) same) in
    omega (arith, counted, twice)

pub once_iff : (ps : List KeyValue) → (keys_once ps ≡ true → AreDistinct ps) × (AreDistinct ps → keys_once ps ≡ true)
once_iff ps = (distinct_from_once ps, λ h. once_from_distinct ps (distinct_from ps h))

-- ---- whatever the order

pub keys_once-permutation : (ps qs : List KeyValue) → IsPermutation ps qs → keys_once ps ≡ true → keys_once qs ≡ true
keys_once-permutation ps qs same once =
    let here : All (λ p. eqb (count_by (has_key p.0) ps) 1 ≡ true) qs =
    All-permutation (λ p. eqb (count_by (has_key p.0) ps) 1 ≡ true) ps qs same (AllPass-from_list_all (λ p. eqb (count_by (has_key p.0) ps) 1) ps once) in
    list_all-from_AllPass (λ p. eqb (count_by (has_key p.0) qs) 1) qs
    (λ k d lt. subst (λ (n : ℕ). eqb n 1 ≡ true) (sym (sum_by-IsPermutation (λ q. cond (has_key (get_or qs k d).0 q) 1 0) ps qs same)) (here k d lt))
