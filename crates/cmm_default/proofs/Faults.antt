-- A fault of the pairs is one that stands.
use Rattle.std.proofs.Common.{◌≡◌, ℕ, Bool, true, false, cond, List, [], length, Option, Some, None, refl, sym, ap, subst, ◌∙◌, ltb}
use Rattle.std.specs.Prelude.{find, option_map}
use Rattle.std.specs.Option.{option_or}
use Rattle.std.proofs.lemmas.Bool.{ltb-true}
use Rattle.esdk_fields.specs.declared.faults.Fault.{Fault}
use Rattle.esdk_fields.specs.declared.faults.Fault.TheVariants.{ReservedKey, ContextMismatch, ContextTooLong}
use Rattle.context_codec.specs.Context.{KeyValue, ctx_text}
use Rattle.context_codec.specs.Join.{clashes, mismatch, too_long, join_fault}
use Rattle.context_codec.specs.Parts.{holds, whole_of}
use Rattle.keyring_trait.proofs.Least.{clash_values}
use Rattle.keyring_trait.specs.declared.manager_errors.ManagerError.{ManagerError}
use Rattle.keyring_trait.specs.declared.manager_errors.ManagerError.TheVariants as errors
use Rattle.keyring_trait.specs.Laws.{HasTwoValues}
use Rattle.keyring_trait.specs.Manager.{ManagerNow, FaultStands, FindsNone, offence_told}
use Rattle.keyring_trait.specs.Requests.{DecRequestValue}
use Rattle.keyring_trait.specs.Unlocking.{reserved_key, reserved_stored, when, offences, pair_offence}
use Rattle.keyring_trait.specs.Wrapping.{WrapKeyValue}
use Rattle.cmm_default.specs.Steps.{JoinsNot}
use Rattle.cmm_default.proofs.Passing.{passing_from_found}

-- ---- the order of the faults

or_none : (o : Option Fault) → option_or o None ≡ o
or_none None = refl
or_none (Some f) = refl

-- where no key is demanded, the reserved key is judged first, and then the rest
offence_is : (stored given : List KeyValue) → pair_offence stored given [] ≡ option_or (reserved_stored stored) (join_fault stored given)
unfolding offences join_fault
offence_is stored given = ap (λ o. option_or (reserved_stored stored) (option_or (mismatch stored given) o)) (or_none (too_long (whole_of stored given)))

pub reserved_first : (stored given : List KeyValue) → holds stored reserved_key ≡ true → pair_offence stored given [] ≡ Some ReservedKey
reserved_first stored given held = offence_is stored given ∙ ap (λ b. option_or (when b ReservedKey) (join_fault stored given)) held

pub join_next : (stored given : List KeyValue) → holds stored reserved_key ≡ false → pair_offence stored given [] ≡ join_fault stored given
join_next stored given free = offence_is stored given ∙ ap (λ b. option_or (when b ReservedKey) (join_fault stored given)) free

-- ---- what stands

-- the fault stands in the pairs, and is the first
abbrev Stands : (List WrapKeyValue → Type 0) → DecRequestValue → Option Fault → Fault → Type 0
Stands tells request offence fault = FaultStands tells request fault × (offence ≡ offence_told fault)

two_values : (stored given : List KeyValue) (p : KeyValue) → find (clashes given) stored ≡ Some p → HasTwoValues stored given p.0
two_values stored given p found =
    let first = passing_from_found (clashes given) stored p found in
    let values = clash_values given p first.passing in
    record { value = p.1; other = values.0; in_stored = first.listed; in_given = values.1; differ = values.2 }

-- what is found first
abbrev by_found : Bool → Option KeyValue → Bool → ℕ → Option Fault
by_found b p long n = option_or (when b ReservedKey) (option_or (option_map (λ q. ContextMismatch q.0) p) (cond long (Some (ContextTooLong n)) None))

by_found_stands : (tells : List WrapKeyValue → Type 0) (request : DecRequestValue) (b : Bool) (p : Option KeyValue) (long : Bool) (fault : Fault)
    → holds request.stored reserved_key ≡ b → find (clashes request.given) request.stored ≡ p → ltb 65535 (length (ctx_text (whole_of request.stored request.given))) ≡ long
    → by_found b p long (length (ctx_text (whole_of request.stored request.given))) ≡ Some fault → Stands tells request (by_found b p long (length (ctx_text (whole_of request.stored request.given)))) fault
by_found_stands tells request true p long fault held found test e =
    let named : ReservedKey ≡ fault = cc in
    subst (λ f. Stands tells request (by_found true p long (length (ctx_text (whole_of request.stored request.given)))) f) named (held, refl)
by_found_stands tells request false (Some p) long fault held found test e =
    let named : ContextMismatch p.0 ≡ fault = cc in
    subst (λ f. Stands tells request (by_found false (Some p) long (length (ctx_text (whole_of request.stored request.given)))) f) named (two_values request.stored request.given p found, refl)
by_found_stands tells request false None true fault held found test e =
    let n = length (ctx_text (whole_of request.stored request.given)) in
    let named : ContextTooLong n ≡ fault = cc in
    subst (λ f. Stands tells request (by_found false None true n) f) named ((refl, ltb-true 65535 n test), refl)
by_found_stands tells request false None false fault held found test e = absurd cc

fault_stands : (tells : List WrapKeyValue → Type 0) (request : DecRequestValue) (fault : Fault)
    → pair_offence request.stored request.given [] ≡ Some fault → Stands tells request (pair_offence request.stored request.given []) fault
unfolding join_fault
fault_stands tells request fault e =
    let is = offence_is request.stored request.given in
    subst (λ o. Stands tells request o fault) (sym is)
    (by_found_stands tells request (holds request.stored reserved_key) (find (clashes request.given) request.stored) (ltb 65535 (length (ctx_text (whole_of request.stored request.given)))) fault refl refl refl (sym is ∙ e))

-- Why the pairs aren't joined is why the default manager finds no materials.
pub joins_not : (old new : ManagerNow) (request : DecRequestValue) (error : ManagerError)
    → old.meaning.demands ≡ [] → JoinsNot request.stored request.given error → FindsNone old new request error
joins_not old new request (errors.Fault fault) none cause =
    let stands = fault_stands old.tells request fault cause in
    (stands.0, λ _. ap (pair_offence request.stored request.given) none ∙ stands.1)
joins_not old new request (errors.Refusal refusal) none cause = cause
joins_not old new request errors.KeyringFault none cause = absurd cause
joins_not old new request errors.Memory none cause = tt
