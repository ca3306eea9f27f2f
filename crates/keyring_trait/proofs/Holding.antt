-- Keys that are required, and held.
use Rattle.std.proofs.Common.{◌≡◌, inl, inr, ℕ, Bool, true, false, cond, List, [], ◌∷◌, Option, Some, None, refl, sym, ap, ◌∙◌}
use Rattle.std.specs.Prelude.{Contains, find, get_or, not, option_map}
use Rattle.std.proofs.lemmas.Bool.{or_cases}
use Rattle.std.proofs.lemmas.List.Elements.{All-nil, All-cons, All-contains, Contains-get_or}
use Rattle.context_codec.specs.Context.{KeyValue}
use Rattle.context_codec.specs.KeySet.{has, with_keys}
use Rattle.context_codec.specs.Parts.{holds}
use Rattle.context_codec.proofs.KeySets.{has-with_keys, has-from_Contains, Contains-from_has}
use Rattle.keyring_trait.specs.Requests.{AllHeld}

none_absent : (context : List KeyValue) (keys : List (List ℕ)) → find (λ key. not (holds context key)) keys ≡ None → AllHeld context keys
none_absent context [] e = All-nil (λ key. holds context key ≡ true)
none_absent context (key ∷ keys) e = by_test (holds context key) refl (none_absent context keys) e
  where
    by_test : (b : Bool) → b ≡ holds context key → (find (λ k. not (holds context k)) keys ≡ None → AllHeld context keys)
        → cond (not b) (Some key) (find (λ k. not (holds context k)) keys) ≡ None → AllHeld context (key ∷ keys)
    by_test true is rest e' = All-cons (λ k. holds context k ≡ true) key keys (sym is) (rest e')
    by_test false is rest e' = absurd cc

-- keys of which none is absent are held
pub held_unless_absent : {K : Type 0} (view : K → List ℕ) (context : List KeyValue) (keys : List (List ℕ)) (found : Option K)
    → option_map view found ≡ find (λ key. not (holds context key)) keys → found ≡ None → AllHeld context keys
held_unless_absent view context keys found e none = none_absent context keys (sym e ∙ ap (option_map view) none)

-- held keys, and more held keys
pub held_with_more : (context : List KeyValue) (keys more : List (List ℕ)) → AllHeld context keys → AllHeld context more → AllHeld context (with_keys keys more)
held_with_more context keys more held others k d lt = of_key (get_or (with_keys keys more) k d) (Contains-get_or (with_keys keys more) k d lt)
  where
    of_key : (key : List ℕ) → Contains (with_keys keys more) key → holds context key ≡ true
    of_key key listed =
        elim (or_cases (has keys key) (has more key) (sym (has-with_keys keys more key) ∙ has-from_Contains (with_keys keys more) key listed)) [
          | inl own ↦ All-contains (λ j. holds context j ≡ true) keys key held (Contains-from_has keys key own)
          | inr other ↦ All-contains (λ j. holds context j ≡ true) more key others (Contains-from_has more key other)
        ]
