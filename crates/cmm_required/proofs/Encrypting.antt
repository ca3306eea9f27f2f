-- What a request to encrypt comes to, from what the inner manager answers to the request with the keys added.
use Rattle.std.proofs.Common.{◌≡◌, ℕ, true, List, [], Option, Some, None, refl, sym, subst, ◌∙◌}
use Rattle.std.specs.Prelude.{All, Contains, find, not, option_map, Result, Ok, Err, IfOk, IfErr}
use Rattle.std.proofs.lemmas.Bool.{or_left, or_right}
use Rattle.std.proofs.lemmas.List.Elements.{All-contains, All-contains_itself, All-weaker}
use Rattle.esdk_fields.specs.declared.refusals.Refusal.{Refusal}
use Rattle.esdk_fields.specs.declared.refusals.Refusal.TheVariants as refusals
use Rattle.context_codec.specs.Context.{KeyValue}
use Rattle.context_codec.specs.KeySet.{has, with_keys}
use Rattle.context_codec.specs.Parts.{holds}
use Rattle.context_codec.proofs.KeySets.{has-with_keys, has-from_Contains, Contains-from_has}
use Rattle.keyring_trait.specs.declared.manager_errors.ManagerError.{ManagerError}
use Rattle.keyring_trait.specs.declared.manager_errors.ManagerError.TheVariants as errors
use Rattle.keyring_trait.specs.Manager.{ManagerMeaning, ManagerNow, GivesMaterials, GivesNone, RefusalStands, request_refusal}
use Rattle.keyring_trait.specs.Materials.{EncMaterialsValue}
use Rattle.keyring_trait.specs.Requests.{EncRequestValue, required_absent}
use Rattle.cmm_required.specs.RequiredCmm.{required_meaning, required_now, requiring}
use Rattle.cmm_required.proofs.Absent.{found_absent}

-- ---- what is refused

-- where the keys are there, the inner manager refuses what is refused
refusal_present : (keys : List (List ℕ)) (inner : ManagerMeaning) (context : List KeyValue) → required_absent context keys ≡ None → inner.demands ≡ []
    → request_refusal (required_meaning keys inner) context ≡ request_refusal inner context
unfolding request_refusal
refusal_present keys inner context present none = rw none (rw present refl)

-- where one is absent, that is refused first
refusal_absent : (keys : List (List ℕ)) (inner : ManagerMeaning) (context : List KeyValue) (refusal : Refusal) → required_absent context keys ≡ Some refusal → inner.demands ≡ []
    → request_refusal (required_meaning keys inner) context ≡ Some refusal
unfolding request_refusal
refusal_absent keys inner context refusal absent none = rw none (rw absent refl)

absent_stands : (keys : List (List ℕ)) (m : ManagerMeaning) (context : List KeyValue) (refusal : Refusal) → required_absent context keys ≡ Some refusal → RefusalStands m context refusal
absent_stands keys m context refusal e = by_key (find (λ key. not (holds context key)) keys) refl e
  where
    by_key : (o : Option (List ℕ)) → o ≡ find (λ key. not (holds context key)) keys → option_map refusals.RequiredAbsent o ≡ Some refusal → RefusalStands m context refusal
    by_key None is e' = absurd cc
    by_key (Some key) is e' =
        let named : refusals.RequiredAbsent key ≡ refusal = cc in
        subst (RefusalStands m context) named (found_absent context keys key (sym is))

inner_stands : (keys : List (List ℕ)) (inner : ManagerMeaning) (context : List KeyValue) (refusal : Refusal)
    → RefusalStands inner context refusal → RefusalStands (required_meaning keys inner) context refusal
inner_stands keys inner context (refusals.RequiredAbsent key) stands = stands
inner_stands keys inner context refusal stands = stands

-- Q4: one of the keys isn't in the context
pub refuses_absent : (keys : List (List ℕ)) (old new : ManagerNow) (request : EncRequestValue) (refusal : Refusal) → required_absent request.context keys ≡ Some refusal
    → GivesNone (required_now keys old) (required_now keys new) request (errors.Refusal refusal)
refuses_absent keys old new request refusal absent =
    (absent_stands keys (required_meaning keys old.meaning) request.context refusal absent, λ x. refusal_absent keys old.meaning request.context refusal absent x.1)

-- ---- what the inner manager answers

-- each of these keys is among those that were asked for
own_asked : (keys : List (List ℕ)) (request : EncRequestValue) (required : List (List ℕ)) → All (λ j. has required j ≡ true) (with_keys request.required keys) → All (λ key. has required key ≡ true) keys
own_asked keys request required all =
    All-weaker (Contains keys) (λ key. has required key ≡ true)
    (λ key listed.
    All-contains (λ j. has required j ≡ true) (with_keys request.required keys) key all
    (Contains-from_has (with_keys request.required keys) key
    (has-with_keys request.required keys key ∙ or_right (has request.required key) (has keys key) (has-from_Contains keys key listed))))
    keys (All-contains_itself keys)

-- all keys of its own are required
pub requires_own : (keys : List (List ℕ)) (n : ManagerNow) (request asked : EncRequestValue) (random : List ℕ) (result : Result EncMaterialsValue ManagerError)
    → asked ≡ requiring keys request → IfOk result (GivesMaterials n asked random) → IfOk result (λ made. All (λ key. has made.required key ≡ true) keys)
requires_own keys n request asked random (Err e) is h = tt
requires_own keys n request asked random (Ok made) is h =
    let given : GivesMaterials n (requiring keys request) random made = subst (λ (a : EncRequestValue). GivesMaterials n a random made) is h in
    own_asked keys request made.required given.required

pub gives_required : (keys : List (List ℕ)) (n : ManagerNow) (request asked : EncRequestValue) (random : List ℕ) (result : Result EncMaterialsValue ManagerError)
    → asked ≡ requiring keys request → required_absent request.context keys ≡ None
    → IfOk result (GivesMaterials n asked random) → IfOk result (GivesMaterials (required_now keys n) request random)
gives_required keys n request asked random (Err e) is present h = tt
gives_required keys n request asked random (Ok made) is present h =
    let given : GivesMaterials n (requiring keys request) random made = subst (λ (a : EncRequestValue). GivesMaterials n a random made) is h in
    record {
      context = given.context;
      required = All-weaker (Contains request.required) (λ key. has made.required key ≡ true) (of_key given.required) request.required (All-contains_itself request.required);
      count = given.count;
      wrapped = given.wrapped;
      fresh = given.fresh;
      plain = given.plain;
      demanded = λ x. given.demanded x.0 ∙ rw x.1 refl;
      unrefused = λ x. refusal_present keys n.meaning request.context present x.1 ∙ given.unrefused x.0;
    }
  where
    of_key : All (λ j. has made.required j ≡ true) (with_keys request.required keys) → (key : List ℕ) → Contains request.required key → has made.required key ≡ true
    of_key all key listed =
        All-contains (λ j. has made.required j ≡ true) (with_keys request.required keys) key all
        (Contains-from_has (with_keys request.required keys) key
        (has-with_keys request.required keys key ∙ or_left (has request.required key) (has keys key) (has-from_Contains request.required key listed)))

pub gives_none_required : (keys : List (List ℕ)) (old new : ManagerNow) (request asked : EncRequestValue) (result : Result EncMaterialsValue ManagerError)
    → asked ≡ requiring keys request → required_absent request.context keys ≡ None
    → IfErr result (GivesNone old new asked) → IfErr result (GivesNone (required_now keys old) (required_now keys new) request)
gives_none_required keys old new request asked (Ok made) is present h = tt
gives_none_required keys old new request asked (Err e) is present h =
    by_error e (subst (λ (a : EncRequestValue). GivesNone old new a e) is h)
  where
    by_error : (e : ManagerError) → GivesNone old new (requiring keys request) e → GivesNone (required_now keys old) (required_now keys new) request e
    by_error (errors.Refusal refusal) none =
        (inner_stands keys old.meaning request.context refusal none.0, λ x. refusal_present keys old.meaning request.context present x.1 ∙ none.1 x.0)
    by_error errors.KeyringFault none = (none.0, λ x. refusal_present keys old.meaning request.context present x.1 ∙ none.1 x.0)
    by_error (errors.Fault fault) none = none
    by_error errors.Memory none = none
