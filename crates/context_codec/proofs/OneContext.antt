-- The same bytes spell one context.
use Rattle.std.proofs.Common.{◌≡◌, ◌⊎◌, inl, inr, ℕ, zero, suc, List, [], ◌∷◌, Some, refl, sym, ap, subst, ◌∙◌, arith}
use Rattle.std.specs.Prelude.{Contains}
use Rattle.std.specs.declared.cmp.Ordering.TheVariants.{Less}
use Rattle.std.specs.List.Sorted.{IsPermutation}
use Rattle.std.proofs.lemmas.List.Sorted.{IsPermutation-sym, IsPermutation-trans, Contains-permutation}
use Rattle.std.proofs.lemmas.Cmp.{nat_list_cmp_total}
use Rattle.context_codec.specs.Context.{KeyValue}
use Rattle.context_codec.specs.Split.{SpellsContext}
use Rattle.context_codec.proofs.Keys.{key_cmp, less_other, StartsAbove, starts_above, Ascends, ascends_from}

head_in : (p : KeyValue) (ps : List KeyValue) → Contains (p ∷ ps) p
head_in p ps = (0, omega arith, refl)

tail_in : (p : KeyValue) (ps : List KeyValue) (x : KeyValue) → Contains ps x → Contains (p ∷ ps) x
tail_in p ps x h = (suc h.0, omega (arith, h.1), h.2)

in_cases : (p : KeyValue) (ps : List KeyValue) (x : KeyValue) → Contains (p ∷ ps) x → (p ≡ x) ⊎ Contains ps x
in_cases p ps x (zero, lt, is) = inl is
in_cases p ps x (suc k, lt, is) = inr (k, omega arith, is)

not_in_nil : (x : KeyValue) → Contains [] x → ⊥
not_in_nil x h = omega (arith, h.1)

-- whatever an ascending list holds is above what its first is above
above_all : (key : List ℕ) (ps : List KeyValue) (x : KeyValue) → StartsAbove key ps → Ascends ps → Contains ps x → key_cmp key x.0 ≡ Less
above_all key [] x above up h = absurd (not_in_nil x h)
above_all key (p ∷ ps) x above up h =
    elim (in_cases p ps x h) [
      | inl is ↦ subst (λ (q : KeyValue). key_cmp key q.0 ≡ Less) is above
      | inr later ↦ above_all key ps x (starts_above key p.0 ps above up.0) up.1 later
    ]

not_both : (a b : List ℕ) → key_cmp a b ≡ Less → key_cmp b a ≡ Less → ⊥
not_both a b less more = less_other a a (nat_list_cmp_total.trans a b a less more) refl

-- the first pairs are the same
same_first : (p : KeyValue) (ps : List KeyValue) (q : KeyValue) (qs : List KeyValue) → Ascends (p ∷ ps) → Ascends (q ∷ qs) → Contains (q ∷ qs) p → Contains (p ∷ ps) q → p ≡ q
same_first p ps q qs up up' p_in q_in =
    elim (in_cases q qs p p_in) [
      | inl is ↦ sym is
      | inr later ↦
          elim (in_cases p ps q q_in) [
            | inl is ↦ is
            | inr later' ↦ absurd (not_both p.0 q.0 (above_all p.0 ps q up.0 up.1 later') (above_all q.0 qs p up'.0 up'.1 later))
          ]
    ]

-- what stands behind the first of one list stands behind that of the other
tail_moves : (p : KeyValue) (ps qs : List KeyValue) (x : KeyValue) → Ascends (p ∷ ps) → Contains ps x → Contains (p ∷ qs) x → Contains qs x
tail_moves p ps qs x up later h =
    elim (in_cases p qs x h) [
      | inl is ↦ absurd (less_other p.0 x.0 (above_all p.0 ps x up.0 up.1 later) (ap (λ (r : KeyValue). r.0) is))
      | inr there ↦ there
    ]

pub same_ascending : (ps qs : List KeyValue) → Ascends ps → Ascends qs → ((x : KeyValue) → Contains ps x → Contains qs x) → ((x : KeyValue) → Contains qs x → Contains ps x) → ps ≡ qs
same_ascending [] [] up up' forth back = refl
same_ascending [] (q ∷ qs) up up' forth back = absurd (not_in_nil q (back q (head_in q qs)))
same_ascending (p ∷ ps) [] up up' forth back = absurd (not_in_nil p (forth p (head_in p ps)))
same_ascending (p ∷ ps) (q ∷ qs) up up' forth back =
    let first : p ≡ q = same_first p ps q qs up up' (forth p (head_in p ps)) (back q (head_in q qs)) in
    let rest : ps ≡ qs = same_ascending ps qs up.1 up'.1
    (λ x h. tail_moves p ps qs x up h (subst (λ (r : KeyValue). Contains (r ∷ qs) x) (sym first) (forth x (tail_in p ps x h))))
    (λ x h. tail_moves q qs ps x up' h (subst (λ (r : KeyValue). Contains (r ∷ ps) x) first (back x (tail_in q qs x h)))) in
    ap (λ (r : KeyValue). r ∷ ps) first ∙ ap (λ (rs : List KeyValue). q ∷ rs) rest

some_same : (ps qs : List KeyValue) → Some ps ≡ Some qs → ps ≡ qs
some_same ps qs e = cc

pub one_context : (bytes : List ℕ) (c d : List KeyValue) → SpellsContext bytes c → SpellsContext bytes d → c ≡ d
one_context bytes c d first second =
    let pairs : first.pairs ≡ second.pairs = some_same first.pairs second.pairs (sym first.spelled ∙ second.spelled) in
    let same : IsPermutation first.pairs d = subst (λ (ps : List KeyValue). IsPermutation ps d) (sym pairs) second.same in
    let forth : IsPermutation c d = IsPermutation-trans c first.pairs d (IsPermutation-sym first.pairs c first.same) same in
    same_ascending c d (ascends_from c first.ascending) (ascends_from d second.ascending) (λ x h. Contains-permutation c d x forth h) (λ x h. Contains-permutation d c x (IsPermutation-sym c d forth) h)
