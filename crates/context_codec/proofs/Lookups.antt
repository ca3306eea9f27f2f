-- Looking a key up.
use Rattle.std.proofs.Common.{◌≡◌, ◌≢◌, ◌↔◌, ℕ, ◌+◌, ◌<◌, Bool, true, false, ◌||◌, cond, List, [], ◌∷◌, length, get_or, drop, Option, Some, None, refl, sym, ap, subst, ◌∙◌}
use Rattle.std.specs.Prelude.{All, IsNone, option_map}
use Rattle.std.specs.Option.{is_some}
use Rattle.std.specs.Map.{lookup}
use Rattle.std.specs.Str.{bytes_eq}
use Rattle.std.specs.Cmp.Lexicographic.{bytes_decides}
use Rattle.std.proofs.lemmas.Bool.{false_from_ne_true}
use Rattle.std.proofs.lemmas.Bool.Decides.{not_from_Decides}
use Rattle.std.proofs.lemmas.List.{at_drop_more}
use Rattle.std.proofs.lemmas.List.Elements.{All-nil, All-cons, All-head, All-tail}
use Rattle.context_codec.specs.Context.{KeyValue}
use Rattle.context_codec.specs.Parts.{holds}

-- the pair at this place has the key
pub lookup_here : (key : List ℕ) (ps : List KeyValue) (i : ℕ) (p : KeyValue) → i < length ps → p ≡ get_or ps i p → bytes_eq key p.0 ≡ true → lookup (bytes_eq key) (drop i ps) ≡ Some p.1
lookup_here key ps i p lt is same =
    let shown : cond (bytes_eq key p.0) (Some p.1) (lookup (bytes_eq key) (drop (i + 1) ps)) ≡ Some p.1 = rw same refl in
    at_drop_more (lookup (bytes_eq key)) ps i p lt ∙ subst (λ (q : KeyValue). cond (bytes_eq key q.0) (Some q.1) (lookup (bytes_eq key) (drop (i + 1) ps)) ≡ Some p.1) is shown

-- the pair at this place has another key
pub lookup_past : (key : List ℕ) (ps : List KeyValue) (i : ℕ) (p : KeyValue) → i < length ps → p ≡ get_or ps i p → bytes_eq key p.0 ≡ false → lookup (bytes_eq key) (drop i ps) ≡ lookup (bytes_eq key) (drop (i + 1) ps)
lookup_past key ps i p lt is other =
    let shown : cond (bytes_eq key p.0) (Some p.1) (lookup (bytes_eq key) (drop (i + 1) ps)) ≡ lookup (bytes_eq key) (drop (i + 1) ps) = rw other refl in
    at_drop_more (lookup (bytes_eq key)) ps i p lt ∙ subst (λ (q : KeyValue). cond (bytes_eq key q.0) (Some q.1) (lookup (bytes_eq key) (drop (i + 1) ps)) ≡ lookup (bytes_eq key) (drop (i + 1) ps)) is shown

none_cons : (key : List ℕ) (p : KeyValue) (ps : List KeyValue) (b : Bool) → b ≡ bytes_eq key p.0 → cond b (Some p.1) (lookup (bytes_eq key) ps) ≡ None → (b ≡ false) × (lookup (bytes_eq key) ps ≡ None)
none_cons key p ps true is e = absurd cc
none_cons key p ps false is e = (refl, e)

none_absent : (key : List ℕ) (ps : List KeyValue) → lookup (bytes_eq key) ps ≡ None → All (λ p. key ≢ p.0) ps
none_absent key [] e = All-nil (λ p. key ≢ p.0)
none_absent key (p ∷ ps) e =
    let parts = none_cons key p ps (bytes_eq key p.0) refl e in
    All-cons (λ q. key ≢ q.0) p ps (not_from_Decides (bytes_eq key p.0) (bytes_decides key p.0) parts.0) (none_absent key ps parts.1)

absent_none : (key : List ℕ) (ps : List KeyValue) → All (λ p. key ≢ p.0) ps → lookup (bytes_eq key) ps ≡ None
absent_none key [] h = refl
absent_none key (p ∷ ps) h =
    let other : bytes_eq key p.0 ≡ false = false_from_ne_true (bytes_eq key p.0) (λ e. All-head (λ q. key ≢ q.0) p ps h ((bytes_decides key p.0).0 e)) in
    rw other (absent_none key ps (All-tail (λ q. key ≢ q.0) p ps h))

-- There is no value exactly where no pair has the key.
pub absent_iff : {V : Type 0} (view : V → List ℕ) (key : List ℕ) (ps : List KeyValue) (found : Option V) → option_map view found ≡ lookup (bytes_eq key) ps → IsNone found ↔ All (λ p. key ≢ p.0) ps
absent_iff view key ps None e = (λ _. none_absent key ps (sym e), λ _. refl)
absent_iff view key ps (Some v) e = (λ h. absurd cc, λ h. absurd (let none = absent_none key ps h in cc))

found_holds : (key : List ℕ) (ps : List KeyValue) → is_some (lookup (bytes_eq key) ps) ≡ holds ps key
found_holds key [] = refl
found_holds key (p ∷ ps) = by_test (bytes_eq key p.0) (found_holds key ps)
  where
    by_test : (b : Bool) → is_some (lookup (bytes_eq key) ps) ≡ holds ps key → is_some (cond b (Some p.1) (lookup (bytes_eq key) ps)) ≡ (b || holds ps key)
    by_test true rest = refl
    by_test false rest = rest

is_some-map : {A B : Type 0} (f : A → B) (o : Option A) → is_some o ≡ is_some (option_map f o)
is_some-map f None = refl
is_some-map f (Some x) = refl

-- There is a value exactly where the pairs hold the key.
pub found_iff_holds : {V : Type 0} (view : V → List ℕ) (key : List ℕ) (ps : List KeyValue) (found : Option V) → option_map view found ≡ lookup (bytes_eq key) ps → is_some found ≡ holds ps key
found_iff_holds view key ps found e = is_some-map view found ∙ ap is_some e ∙ found_holds key ps

none_from : {V : Type 0} (o : Option V) → is_some o ≡ false → o ≡ None
none_from None e = refl
none_from (Some v) e = absurd cc

-- There is no value where the pairs don't hold the key.
pub lookup_absent : (key : List ℕ) (ps : List KeyValue) → holds ps key ≡ false → lookup (bytes_eq key) ps ≡ None
lookup_absent key ps absent = none_from (lookup (bytes_eq key) ps) (found_holds key ps ∙ absent)
