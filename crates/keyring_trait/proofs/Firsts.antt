-- What is found of the first element of a list of which something is.
use Rattle.std.proofs.Common.{◌≡◌, ◌⊎◌, inl, inr, List, [], ◌∷◌, Option, Some, None, refl, sym, subst, ◌∙◌}
use Rattle.std.specs.Prelude.{Contains}
use Rattle.std.specs.Option.{option_or}
use Rattle.context_codec.proofs.Members.{Contains-head, Contains-tail, Contains-cases, Contains-nil}
use Rattle.keyring_trait.specs.Wrapping.{first_some}

-- nothing, or this
abbrev pub IsOrNone : {A : Type 0} → A → Option A → Type 0
IsOrNone a o = (o ≡ None) ⊎ (o ≡ Some a)

pub first_some-or : {X A : Type 0} (look : X → Option A) (xs : List X) (a : A) → ((x : X) → Contains xs x → IsOrNone a (look x)) → IsOrNone a (first_some look xs)
first_some-or look [] a h = inl refl
first_some-or look (y ∷ xs) a h =
    elim (h y (Contains-head y xs)) [
      | inl none ↦ rw none (first_some-or look xs a (λ x later. h x (Contains-tail y xs x later)))
      | inr some ↦ inr (rw some refl)
    ]

pub first_some-is : {X A : Type 0} (look : X → Option A) (xs : List X) (a : A) (x : X) → ((z : X) → Contains xs z → IsOrNone a (look z)) → Contains xs x → look x ≡ Some a → first_some look xs ≡ Some a
first_some-is look [] a x h listed found = absurd (Contains-nil x listed)
first_some-is look (y ∷ xs) a x h listed found =
    elim (h y (Contains-head y xs)) [
      | inl none ↦
          elim (Contains-cases y xs x listed) [
            | inl is ↦ absurd (let here : look y ≡ Some a = subst (λ z. look z ≡ Some a) (sym is) found in cc)
            | inr later ↦ rw none (first_some-is look xs a x (λ z there. h z (Contains-tail y xs z there)) later found)
          ]
      | inr some ↦ rw some refl
    ]

-- it is found of this element
pub record IsFoundOf {X A : Type 0} (look : X → Option A) (xs : List X) (a : A) : Type 0 where
  pub at : X
  pub listed : Contains xs at
  pub found : look at ≡ Some a

found_step : {X A : Type 0} (look : X → Option A) (y : X) (xs : List X) (a : A) (o : Option A) → o ≡ look y → option_or o (first_some look xs) ≡ Some a → (first_some look xs ≡ Some a → IsFoundOf look xs a) → IsFoundOf look (y ∷ xs) a
found_step look y xs a None is e rest =
    let later = rest e in
    record { at = later.at; listed = Contains-tail y xs later.at later.listed; found = later.found }
found_step look y xs a (Some b) is e rest = record { at = y; listed = Contains-head y xs; found = sym is ∙ e }

pub first_some-found : {X A : Type 0} (look : X → Option A) (xs : List X) (a : A) → first_some look xs ≡ Some a → IsFoundOf look xs a
first_some-found look [] a e = absurd cc
first_some-found look (y ∷ xs) a e = found_step look y xs a (look y) refl e (first_some-found look xs a)

none_step : {X A : Type 0} (look : X → Option A) (y : X) (xs : List X) (o : Option A) → o ≡ look y → option_or o (first_some look xs) ≡ None → (look y ≡ None) × (first_some look xs ≡ None)
none_step look y xs None is e = (sym is, e)
none_step look y xs (Some b) is e = absurd cc

pub first_some-none : {X A : Type 0} (look : X → Option A) (xs : List X) → first_some look xs ≡ None → (x : X) → Contains xs x → look x ≡ None
first_some-none look [] e x listed = absurd (Contains-nil x listed)
first_some-none look (y ∷ xs) e x listed =
    let parts = none_step look y xs (look y) refl e in
    elim (Contains-cases y xs x listed) [
      | inl is ↦ subst (λ z. look z ≡ None) is parts.0
      | inr later ↦ first_some-none look xs parts.1 x later
    ]

pub none_first_some : {X A : Type 0} (look : X → Option A) (xs : List X) → ((x : X) → Contains xs x → look x ≡ None) → first_some look xs ≡ None
none_first_some look [] h = refl
none_first_some look (y ∷ xs) h = rw (h y (Contains-head y xs)) (none_first_some look xs (λ x later. h x (Contains-tail y xs x later)))
