-- What a request to decrypt comes to, from what the inner manager answers to it.
use Rattle.std.proofs.Common.{◌≡◌, ℕ, List, [], Some, None, refl, ◌∙◌}
use Rattle.std.specs.Prelude.{find, not, Result, Ok, Err, IfOk, IfErr}
use Rattle.esdk_fields.specs.declared.faults.Fault.TheVariants.{MissingRequired}
use Rattle.context_codec.specs.Context.{KeyValue}
use Rattle.context_codec.specs.KeySet.{with_keys}
use Rattle.context_codec.specs.Parts.{holds}
use Rattle.keyring_trait.specs.declared.manager_errors.ManagerError.{ManagerError}
use Rattle.keyring_trait.specs.declared.manager_errors.ManagerError.TheVariants as errors
use Rattle.keyring_trait.specs.Manager.{ManagerNow, FindsMaterials, FindsNone}
use Rattle.keyring_trait.specs.Materials.{DecMaterialsValue}
use Rattle.keyring_trait.specs.Requests.{DecRequestValue}
use Rattle.keyring_trait.specs.Unlocking.{offences, pair_offence}
use Rattle.cmm_required.specs.RequiredCmm.{required_now}
use Rattle.cmm_required.proofs.Absent.{found_absent}

-- where the keys are given, what is wrong with the pairs is what the inner manager looks for
offence_given : (stored given : List KeyValue) (keys demands : List (List ℕ)) → find (λ k. not (holds given k)) keys ≡ None → demands ≡ []
    → pair_offence stored given (with_keys keys demands) ≡ pair_offence stored given demands
unfolding offences
offence_given stored given keys demands present none = rw none (rw present refl)

-- where one is missing, that is wrong first
offence_missing : (stored given : List KeyValue) (keys demands : List (List ℕ)) (key : List ℕ) → find (λ k. not (holds given k)) keys ≡ Some key → demands ≡ []
    → pair_offence stored given (with_keys keys demands) ≡ Some (MissingRequired key)
unfolding offences
offence_missing stored given keys demands key missing none = rw none (rw missing refl)

-- M13: one of the keys isn't given
pub misses : (keys : List (List ℕ)) (old new : ManagerNow) (request : DecRequestValue) (key : List ℕ) → find (λ k. not (holds request.given k)) keys ≡ Some key
    → FindsNone (required_now keys old) (required_now keys new) request (errors.Fault (MissingRequired key))
misses keys old new request key found =
    (found_absent request.given keys key found, λ x. offence_missing request.stored request.given keys old.meaning.demands key found x.1)

pub finds_required : (keys : List (List ℕ)) (old new : ManagerNow) (request : DecRequestValue) (result : Result DecMaterialsValue ManagerError)
    → find (λ k. not (holds request.given k)) keys ≡ None
    → IfOk result (FindsMaterials old new request) → IfOk result (FindsMaterials (required_now keys old) (required_now keys new) request)
finds_required keys old new request (Err e) present h = tt
finds_required keys old new request (Ok found) present h = record {
  context = h.context;
  only = h.only;
  opened = h.opened;
  first = h.first;
  plain = h.plain;
  unfaulted = λ x. offence_given request.stored request.given keys old.meaning.demands present x.1 ∙ h.unfaulted x.0;
}

pub finds_none_required : (keys : List (List ℕ)) (old new : ManagerNow) (request : DecRequestValue) (result : Result DecMaterialsValue ManagerError)
    → find (λ k. not (holds request.given k)) keys ≡ None
    → IfErr result (FindsNone old new request) → IfErr result (FindsNone (required_now keys old) (required_now keys new) request)
finds_none_required keys old new request (Ok found) present h = tt
finds_none_required keys old new request (Err (errors.Fault fault)) present h =
    (h.0, λ x. offence_given request.stored request.given keys old.meaning.demands present x.1 ∙ h.1 x.0)
finds_none_required keys old new request (Err errors.KeyringFault) present h =
    (h.0, λ x. offence_given request.stored request.given keys old.meaning.demands present x.1 ∙ h.1 x.0)
finds_none_required keys old new request (Err (errors.Refusal refusal)) present h = h
finds_none_required keys old new request (Err errors.Memory) present h = h
