-- Parts of contexts: what is left out of one leaves a context, and the parts joined are the whole.
use Rattle.std.proofs.Common.{◌≡◌, inl, inr, ℕ, ◌≤◌, Bool, true, false, cond, List, [], ◌∷◌, length, Some, refl, sym, ap, subst, ◌∙◌, arith}
use Rattle.std.specs.Prelude.{All, Contains, filter, not}
use Rattle.std.specs.Map.{lookup}
use Rattle.std.specs.Ordering.{ordering_reverse}
use Rattle.std.specs.declared.cmp.Ordering.TheVariants.{Less, Greater}
use Rattle.std.specs.Str.{bytes_eq}
use Rattle.std.specs.Cmp.Lexicographic.{bytes_decides}
use Rattle.std.proofs.lemmas.Bool.{and_parts, and_from, not-true}
use Rattle.std.proofs.lemmas.List.Elements.{All-same, All-weaker, filter_passes}
use Rattle.std.proofs.lemmas.Cmp.{nat_list_cmp_total}
use Rattle.context_codec.specs.Context.{KeyValue, is_text_pair, are_texts, ctx_text, IsContext}
use Rattle.context_codec.proofs.Keys.{key_cmp, less_other, StartsAbove, starts_above, Ascends, ascends_from, ascending_from}
use Rattle.context_codec.proofs.Distinct.{key_same, key_has}
use Rattle.context_codec.proofs.Sizes.{pairs_len, pairs_len-cons, length-ctx_text-le, length-pairs_text}
use Rattle.context_codec.specs.Parts.{holds, is_among, stored_of, only_of, only_given, put, joined}
use Rattle.context_codec.proofs.Members.{Contains-head, Contains-tail, Contains-cases, Contains-nil, passes_from, list_any-from}

-- ---- keys above a key

-- each pair has a key above this one
abbrev pub AllAbove : List ℕ → List KeyValue → Type 0
AllAbove key [] = Unit {0}
AllAbove key (p ∷ ps) = (key_cmp key p.0 ≡ Less) × AllAbove key ps

pub all_above : (key : List ℕ) (ps : List KeyValue) → StartsAbove key ps → Ascends ps → AllAbove key ps
all_above key [] above up = tt
all_above key (p ∷ ps) above up = (above, all_above key ps (starts_above key p.0 ps above up.0) up.1)

starts_from : (key : List ℕ) (ps : List KeyValue) → AllAbove key ps → StartsAbove key ps
starts_from key [] h = tt
starts_from key (p ∷ ps) h = h.0

above_at : (key : List ℕ) (ps : List KeyValue) (x : KeyValue) → AllAbove key ps → Contains ps x → key_cmp key x.0 ≡ Less
above_at key [] x h listed = absurd (Contains-nil x listed)
above_at key (p ∷ ps) x h listed =
    elim (Contains-cases p ps x listed) [
      | inl is ↦ subst (λ (q : KeyValue). key_cmp key q.0 ≡ Less) is h.0
      | inr later ↦ above_at key ps x h.1 later
    ]

AllAbove-filter : (test : KeyValue → Bool) (key : List ℕ) (ps : List KeyValue) → AllAbove key ps → AllAbove key (filter test ps)
AllAbove-filter test key [] h = tt
AllAbove-filter test key (p ∷ ps) h = by_test (test p) (AllAbove-filter test key ps h.1)
  where
    by_test : (b : Bool) → AllAbove key (filter test ps) → AllAbove key (cond b (p ∷ filter test ps) (filter test ps))
    by_test true rest = (h.0, rest)
    by_test false rest = rest

-- ---- some pairs of a context

pub Ascends-filter : (test : KeyValue → Bool) (ps : List KeyValue) → Ascends ps → Ascends (filter test ps)
Ascends-filter test [] up = tt
Ascends-filter test (p ∷ ps) up = by_test (test p) (Ascends-filter test ps up.1)
  where
    by_test : (b : Bool) → Ascends (filter test ps) → Ascends (cond b (p ∷ filter test ps) (filter test ps))
    by_test true rest = (starts_from p.0 (filter test ps) (AllAbove-filter test p.0 ps (all_above p.0 ps up.0 up.1)), rest)
    by_test false rest = rest

are_texts-filter : (test : KeyValue → Bool) (ps : List KeyValue) → are_texts ps ≡ true → are_texts (filter test ps) ≡ true
are_texts-filter test [] texts = refl
are_texts-filter test (p ∷ ps) texts =
    let parts = and_parts (is_text_pair p) (are_texts ps) texts in
    by_test (test p) parts.0 (are_texts-filter test ps parts.1)
  where
    by_test : (b : Bool) → is_text_pair p ≡ true → are_texts (filter test ps) ≡ true → are_texts (cond b (p ∷ filter test ps) (filter test ps)) ≡ true
    by_test true here rest = and_from (is_text_pair p) (are_texts (filter test ps)) here rest
    by_test false here rest = rest

pairs_len-filter : (test : KeyValue → Bool) (ps : List KeyValue) → pairs_len (filter test ps) ≤ pairs_len ps
pairs_len-filter test [] = omega arith
pairs_len-filter test (p ∷ ps) = by_test (test p) (pairs_len-filter test ps)
  where
    by_test : (b : Bool) → pairs_len (filter test ps) ≤ pairs_len ps → pairs_len (cond b (p ∷ filter test ps) (filter test ps)) ≤ pairs_len (p ∷ ps)
    by_test true rest = omega (arith, rest, pairs_len-cons p (filter test ps), pairs_len-cons p ps)
    by_test false rest = omega (arith, rest, pairs_len-cons p ps)

length-text-filter : (test : KeyValue → Bool) (ps : List KeyValue) → length (ctx_text (filter test ps)) ≤ length (ctx_text ps)
length-text-filter test [] = omega arith
length-text-filter test (p ∷ ps) =
    omega (arith, length-ctx_text-le (filter test (p ∷ ps)), pairs_len-filter test (p ∷ ps), length-pairs_text (p ∷ ps))

-- some of a context's pairs are a context
pub IsContext-filter : (test : KeyValue → Bool) (c : List KeyValue) → IsContext c → IsContext (filter test c)
IsContext-filter test c h = record {
  ascending = ascending_from (filter test c) (Ascends-filter test c (ascends_from c h.ascending));
  texts = are_texts-filter test c h.texts;
  short = omega (arith, length-text-filter test c, h.short);
}

pub IsContext-stored_of : (required : List (List ℕ)) (c : List KeyValue) → IsContext c → IsContext (stored_of required c)
IsContext-stored_of required c h = IsContext-filter (λ p. not (is_among required p)) c h

pub IsContext-only_of : (required : List (List ℕ)) (c : List KeyValue) → IsContext c → IsContext (only_of required c)
IsContext-only_of required c h = IsContext-filter (is_among required) c h

pub IsContext-only_given : (stored given : List KeyValue) → IsContext given → IsContext (only_given stored given)
IsContext-only_given stored given h = IsContext-filter (λ p. not (holds stored p.0)) given h

-- none of them has a stored key
pub only_given_new : (stored given only : List KeyValue) → only ≡ only_given stored given → All (λ p. holds stored p.0 ≡ false) only
only_given_new stored given only is =
    All-same (λ (p : KeyValue). holds stored p.0 ≡ false) only (only_given stored given) is
    (All-weaker (λ (p : KeyValue). not (holds stored p.0) ≡ true) (λ (p : KeyValue). holds stored p.0 ≡ false) (λ p e. not-true (holds stored p.0) e)
    (only_given stored given) (filter_passes (λ p. not (holds stored p.0)) given))

-- ---- pairs, put one by one

-- a pair below all others comes first
put_first : (p : KeyValue) (ps : List KeyValue) → StartsAbove p.0 ps → put p ps ≡ p ∷ ps
put_first p [] above = refl
put_first p (q ∷ qs) above = rw above refl

-- a pair is put behind one that is below it
put_later : (p q : KeyValue) (ps : List KeyValue) → key_cmp q.0 p.0 ≡ Less → put p (q ∷ ps) ≡ q ∷ put p ps
put_later p q ps less =
    let greater : key_cmp p.0 q.0 ≡ Greater = nat_list_cmp_total.antisymm p.0 q.0 ∙ ap ordering_reverse less in
    rw greater refl

joined_first : (p : KeyValue) (ps more : List KeyValue) → AllAbove p.0 more → joined (p ∷ ps) more ≡ p ∷ joined ps more
joined_first p ps [] h = refl
joined_first p ps (q ∷ more) h = ap (put q) (joined_first p ps more h.1) ∙ put_later q p (joined ps more) h.0

-- The pairs that pass a test, joined to the others, are all.
pub joined_is : (test : KeyValue → Bool) (c : List KeyValue) → Ascends c → joined (filter (λ p. not (test p)) c) (filter test c) ≡ c
joined_is test [] up = refl
joined_is test (p ∷ ps) up = by_test (test p) (joined_is test ps up.1)
  where
    by_test : (b : Bool) → joined (filter (λ p. not (test p)) ps) (filter test ps) ≡ ps
        → joined (cond (not b) (p ∷ filter (λ p. not (test p)) ps) (filter (λ p. not (test p)) ps)) (cond b (p ∷ filter test ps) (filter test ps)) ≡ p ∷ ps
    by_test true rest = ap (put p) rest ∙ put_first p ps up.0
    by_test false rest =
        joined_first p (filter (λ p. not (test p)) ps) (filter test ps) (AllAbove-filter test p.0 ps (all_above p.0 ps up.0 up.1)) ∙ ap (λ (qs : List KeyValue). p ∷ qs) rest

pub joined_parts : (required : List (List ℕ)) (c : List KeyValue) → Ascends c → joined (stored_of required c) (only_of required c) ≡ c
joined_parts required c up = joined_is (is_among required) c up

-- ---- pairs and their keys

pub holds_own : (ps : List KeyValue) (p : KeyValue) → Contains ps p → holds ps p.0 ≡ true
holds_own ps p listed = list_any-from (λ q. bytes_eq p.0 q.0) ps p listed (key_has p.0 p refl)

-- a key that the pairs hold is the key of one of them
pub record HasPair (ps : List KeyValue) (key : List ℕ) : Type 0 where
  pub pair : KeyValue
  pub listed : Contains ps pair
  pub same : key ≡ pair.0

pub holds_pair : (ps : List KeyValue) (key : List ℕ) → holds ps key ≡ true → HasPair ps key
holds_pair ps key h =
    let found = passes_from (λ q. bytes_eq key q.0) ps h in
    record { pair = found.at; listed = found.listed; same = key_same key found.at found.passing }

-- pairs of a context with the same key are the same
pub same_pair : (c : List KeyValue) (p q : KeyValue) → Ascends c → Contains c p → Contains c q → p.0 ≡ q.0 → p ≡ q
same_pair [] p q up at_p at_q same = absurd (Contains-nil p at_p)
same_pair (x ∷ c) p q up at_p at_q same =
    let above = all_above x.0 c up.0 up.1 in
    elim (Contains-cases x c p at_p) [
      | inl is ↦
          elim (Contains-cases x c q at_q) [
            | inl is' ↦ sym is ∙ is'
            | inr later ↦ absurd (less_other x.0 q.0 (above_at x.0 c q above later) (ap (λ (r : KeyValue). r.0) is ∙ same))
          ]
      | inr later ↦
          elim (Contains-cases x c q at_q) [
            | inl is ↦ absurd (less_other x.0 p.0 (above_at x.0 c p above later) (ap (λ (r : KeyValue). r.0) is ∙ sym same))
            | inr later' ↦ same_pair c p q up.1 later later' same
          ]
    ]

-- the value that is found stands in a pair
pub found_pair : (key value : List ℕ) (ps : List KeyValue) → lookup (bytes_eq key) ps ≡ Some value → Contains ps (key, value)
found_pair key value [] e = absurd cc
found_pair key value (p ∷ ps) e = by_test (bytes_eq key p.0) refl e (found_pair key value ps)
  where
    by_test : (b : Bool) → b ≡ bytes_eq key p.0 → cond b (Some p.1) (lookup (bytes_eq key) ps) ≡ Some value → (lookup (bytes_eq key) ps ≡ Some value → Contains ps (key, value)) → Contains (p ∷ ps) (key, value)
    by_test true is found later =
        let same : key ≡ p.0 = (bytes_decides key p.0).0 (sym is) in
        let value_is : p.1 ≡ value = cc in
        let pair : p ≡ (key, value) = ap (λ (k : List ℕ). (k, p.1)) (sym same) ∙ ap (λ (v : List ℕ). (key, v)) value_is in
        subst (λ (q : KeyValue). Contains (p ∷ ps) q) pair (Contains-head p ps)
    by_test false is found later = Contains-tail p ps (key, value) (later found)
