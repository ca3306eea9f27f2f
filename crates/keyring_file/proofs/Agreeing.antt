-- Raw keys of one namespace and name are one key.
use Rattle.std.proofs.Common.{◌≡◌, ◌<◌, ℕ, zero, suc, Bool, true, false, not, List, [], ◌∷◌, ◌++◌, length, get_or, refl, sym, ap, ◌∙◌, inl, inr, arith}
use Rattle.std.specs.Prelude.{◌&&◌, ◌||◌, ◌⊎◌, Contains}
use Rattle.std.specs.List.{list_any}
use Rattle.std.specs.Str.{bytes_eq}
use Rattle.std.proofs.lemmas.List.Elements.{Contains-append_cases}
use Rattle.std.proofs.lemmas.Slice.Eq.{bytes_eq-Decides}
use Rattle.keyring_trait.specs.Wrapping.{WrapKeyValue}
use Rattle.keyring_file.specs.Walk.{is_another_key}
use Rattle.keyring_file.specs.Counts.{AreOfOneKey}

neither : (a b : Bool) → (a || b) ≡ false → (a ≡ false) × (b ≡ false)
neither true b e = absurd cc
neither false b e = (refl, e)

-- a test that no element passes
fails_at : {X : Type 0} (p : X → Bool) (xs : List X) (x : X) (k : ℕ) → list_any p xs ≡ false → k < length xs → get_or xs k x ≡ x → p x ≡ false
fails_at p [] x k none lt at = absurd (omega (arith, lt))
fails_at p (y ∷ xs) x zero none lt at = ap p (sym at) ∙ (neither (p y) (list_any p xs) none).0
fails_at p (y ∷ xs) x (suc k) none lt at = fails_at p xs x k (neither (p y) (list_any p xs) none).1 (omega (arith, lt)) at

fails : {X : Type 0} (p : X → Bool) (xs : List X) (x : X) → list_any p xs ≡ false → Contains xs x → p x ≡ false
fails p xs x none has = fails_at p xs x has.0 none has.1 has.2

one_at : {X : Type 0} (x y : X) (k : ℕ) → k < length (x ∷ []) → get_or (x ∷ []) k y ≡ y → x ≡ y
one_at x y zero lt at = at
one_at x y (suc k) lt at = absurd (omega (arith, lt))

is_one : {X : Type 0} (x y : X) → Contains (x ∷ []) y → x ≡ y
is_one x y has = one_at x y has.0 has.1 has.2

equal_by : (a b c : Bool) → a ≡ true → b ≡ true → (a && b && not c) ≡ false → c ≡ true
equal_by true true true one two e = refl
equal_by true true false one two e = absurd cc
equal_by true false c one two e = absurd cc
equal_by false b c one two e = absurd cc

-- a key that doesn't clash with another of its namespace and name is the other
equal_keys : (w other : WrapKeyValue) → is_another_key w other ≡ false → other.namespace ≡ w.namespace → other.name ≡ w.name → other.key ≡ w.key
equal_keys w other apart namespace name =
    (bytes_eq-Decides other.key w.key).0 (equal_by (bytes_eq other.namespace w.namespace) (bytes_eq other.name w.name) (bytes_eq other.key w.key)
    ((bytes_eq-Decides other.namespace w.namespace).1 namespace) ((bytes_eq-Decides other.name w.name).1 name) apart)

module _ (keys : List WrapKeyValue) (new : WrapKeyValue) (apart : list_any (is_another_key new) keys ≡ false) (agree : AreOfOneKey keys) where
  with_the_new : (v w : WrapKeyValue) → Contains keys v → new ≡ w → v.namespace ≡ w.namespace → v.name ≡ w.name → v.key ≡ w.key
  with_the_new v w has is namespace name =
      equal_keys new v (fails (is_another_key new) keys v apart has) (namespace ∙ ap (λ k. k.namespace) (sym is)) (name ∙ ap (λ k. k.name) (sym is)) ∙ ap (λ k. k.key) is

  both_in : (v w : WrapKeyValue) → Contains keys v ⊎ Contains (new ∷ []) v → Contains keys w ⊎ Contains (new ∷ []) w → v.namespace ≡ w.namespace → v.name ≡ w.name → v.key ≡ w.key
  both_in v w (inl one) (inl two) namespace name = agree v w one two namespace name
  both_in v w (inl one) (inr two) namespace name = with_the_new v w one (is_one new w two) namespace name
  both_in v w (inr one) (inl two) namespace name = sym (with_the_new w v two (is_one new v one) (sym namespace) (sym name))
  both_in v w (inr one) (inr two) namespace name = ap (λ k. k.key) (sym (is_one new v one) ∙ is_one new w two)

  -- with a key that clashes with none of them
  pub agree_more : AreOfOneKey (keys ++ new ∷ [])
  agree_more = λ v w one two namespace name. both_in v w (Contains-append_cases keys (new ∷ []) v one) (Contains-append_cases keys (new ∷ []) w two) namespace name
