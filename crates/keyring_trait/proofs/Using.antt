-- Which keys a call went by, of keyrings one behind the other.
use Rattle.std.proofs.Common.{◌≡◌, ℕ, ◌≤◌, List, [], ◌∷◌, ◌++◌, length, Option, Some, None, refl, sym, ap, subst, ◌∙◌, arith}
use Rattle.std.specs.Prelude.{⊤}
use Rattle.std.proofs.lemmas.List.{append_assoc, append-nil, append_cancel_left}
use Rattle.keyring_trait.specs.Uses.{KeyUse, Fixed, ReadAnew, GoesBy, AreInOrder, AllGoBy, AskedOnce}
use Rattle.keyring_trait.specs.Wrapping.{WrapKeyValue}

-- what is so of all keys that this is so of
pub once-weaker : (before now : Option (List KeyUse)) (P Q : List WrapKeyValue → Type 0) → ((keys : List WrapKeyValue) → P keys → Q keys) → AskedOnce before now P → AskedOnce before now Q
once-weaker None now P Q so once = tt
once-weaker (Some before) None P Q so once = absurd once
once-weaker (Some before) (Some now) P Q so once = (once.0, once.1, so once.0 once.2)

-- one fixed key
pub fixed_once : (key : WrapKeyValue) (So : List WrapKeyValue → Type 0) → So (key ∷ []) → AskedOnce (Some (Fixed key ∷ [])) (Some (Fixed key ∷ [])) So
fixed_once key So so = (key ∷ [], record { here = key ∷ []; behind = []; are = refl; first = (refl, refl); others = refl }, so)

-- one key that is read anew
pub read_once : (before here : List WrapKeyValue) (now : List WrapKeyValue) (So : List WrapKeyValue → Type 0) → now ≡ before ++ here → length here ≤ 1 → So here
    → AskedOnce (Some (ReadAnew before ∷ [])) (Some (ReadAnew now ∷ [])) So
read_once before here now So is few so = (here, record { here = here; behind = []; are = sym (append-nil here); first = (ap ReadAnew is, few); others = refl }, so)

-- ---- a keyring that isn't asked

-- the keys that it has without being asked
abbrev kept : List KeyUse → List WrapKeyValue
kept [] = []
kept (Fixed key ∷ uses) = key ∷ kept uses
kept (ReadAnew before ∷ uses) = kept uses

unasked_go : (uses : List KeyUse) → AllGoBy uses uses (kept uses)
unasked_go [] = refl
unasked_go (Fixed key ∷ uses) = record { here = key ∷ []; behind = kept uses; are = refl; first = (refl, refl); others = unasked_go uses }
unasked_go (ReadAnew before ∷ uses) =
    record { here = []; behind = kept uses; are = refl; first = (ap ReadAnew (sym (append-nil before)), omega arith); others = unasked_go uses }

pub unasked_once : (uses : Option (List KeyUse)) → AskedOnce uses uses (λ _. ⊤)
unasked_once None = tt
unasked_once (Some uses) = (kept uses, unasked_go uses, tt)

-- ---- two keyrings

AllGoBy-append : (os ns ps qs : List KeyUse) (keys more : List WrapKeyValue) → AllGoBy os ns keys → AllGoBy ps qs more → AllGoBy (os ++ ps) (ns ++ qs) (keys ++ more)
AllGoBy-append [] [] ps qs keys more go next = subst (λ (ks : List WrapKeyValue). AllGoBy ps qs (ks ++ more)) (sym go) next
AllGoBy-append [] (n ∷ ns) ps qs keys more go next = absurd go
AllGoBy-append (o ∷ os) [] ps qs keys more go next = absurd go
AllGoBy-append (o ∷ os) (n ∷ ns) ps qs keys more go next = record {
  here = go.here;
  behind = go.behind ++ more;
  are = ap (λ (ks : List WrapKeyValue). ks ++ more) go.are ∙ append_assoc go.here go.behind more;
  first = go.first;
  others = AllGoBy-append os ns ps qs go.behind more go.others next;
}

-- two that show this together
pub both_once : (before now before_next now_next : List KeyUse) (P Q R : List WrapKeyValue → Type 0) → ((keys others : List WrapKeyValue) → P keys → Q others → R (keys ++ others))
    → AskedOnce (Some before) (Some now) P → AskedOnce (Some before_next) (Some now_next) Q → AskedOnce (Some (before ++ before_next)) (Some (now ++ now_next)) R
both_once before now before_next now_next P Q R so first next = (
  first.0 ++ next.0,
  AllGoBy-append before now before_next now_next first.0 next.0 first.1 next.1,
  so first.0 next.0 first.2 next.2,
)

-- ---- no other keys

-- the keys that were read
abbrev keys_of : KeyUse → List WrapKeyValue
keys_of (Fixed key) = []
keys_of (ReadAnew keys) = keys

goes_by_one : (o n : KeyUse) (keys others : List WrapKeyValue) → GoesBy o n keys → GoesBy o n others → keys ≡ others
goes_by_one (Fixed key) n keys others go went = go.1 ∙ sym went.1
goes_by_one (ReadAnew before) n keys others go went = append_cancel_left before keys others (ap keys_of (sym go.0 ∙ went.0))

-- a call went by these keys and no others
pub went_by_one : (os ns : List KeyUse) (keys others : List WrapKeyValue) → AllGoBy os ns keys → AllGoBy os ns others → keys ≡ others
went_by_one [] [] keys others go went = go ∙ sym went
went_by_one [] (n ∷ ns) keys others go went = absurd go
went_by_one (o ∷ os) [] keys others go went = absurd go
went_by_one (o ∷ os) (n ∷ ns) keys others go went =
    go.are
    ∙ ap (λ (ks : List WrapKeyValue). ks ++ go.behind) (goes_by_one o n go.here went.here go.first went.first)
    ∙ ap (λ (ks : List WrapKeyValue). went.here ++ ks) (went_by_one os ns go.behind went.behind go.others went.others)
    ∙ sym went.are
