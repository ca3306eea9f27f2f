-- What the keyring finds under the whole context, as the default manager's answer.
use Rattle.std.proofs.Common.{◌≡◌, ℕ, List, [], Option, Some, None, refl, sym, subst}
use Rattle.std.specs.Prelude.{⊤, IfSome, Ok}
use Rattle.esdk_fields.specs.Counts.{Stayed}
use Rattle.esdk_fields.specs.declared.faults.Fault.{Fault}
use Rattle.context_codec.specs.Context.{KeyValue}
use Rattle.context_codec.specs.Parts.{whole_of}
use Rattle.edk_codec.specs.Entry.{Entry}
use Rattle.keyring_trait.specs.declared.manager_errors.ManagerError.{ManagerError}
use Rattle.keyring_trait.specs.declared.manager_errors.ManagerError.TheVariants as errors
use Rattle.keyring_trait.specs.Keyring.{KeyringMeaning, OpensWith, Opens, FindsBy}
use Rattle.keyring_trait.specs.Uses.{AskedOnce}
use Rattle.keyring_trait.specs.Materials.{DecMaterialsValue}
use Rattle.keyring_trait.specs.Manager.{FaultStands, FindsNone, offence_told}
use Rattle.keyring_trait.specs.Requests.{DecRequestValue}
use Rattle.keyring_trait.specs.Unlocking.{pair_offence}
use Rattle.keyring_trait.specs.Wrapping.{WrapKeyValue, unwrapped}
use Rattle.cmm_default.specs.DefaultCmm.{default_found, default_now, default_tells}
use Rattle.cmm_default.specs.Steps.{OpensNot}

-- what is found with the keys that are told
told : (old new : KeyringMeaning) (whole : List KeyValue) (entries : List Entry) (found : Option (List ℕ)) (keys : List WrapKeyValue)
    → Opens old new whole entries found → old.keys ≡ Some keys → OpensWith keys entries whole (Stayed old.faults new.faults) found
told old new whole entries found keys opens tells = subst (λ o. IfSome o (λ ks. OpensWith ks entries whole (Stayed old.faults new.faults) found)) tells opens

-- Why nothing opens is why the default manager finds no materials.
pub opens_not : (old new : KeyringMeaning) (request : DecRequestValue) (whole : List KeyValue) (error : ManagerError)
    → whole ≡ whole_of request.stored request.given → pair_offence request.stored request.given [] ≡ None
    → OpensNot old new whole request.entries error → FindsNone (default_now old) (default_now new) request error
opens_not old new request whole (errors.Fault fault) whole_is taken cause =
    subst (λ (f : Fault). FaultStands (default_tells old) request f × (⊤ → pair_offence request.stored request.given [] ≡ offence_told f)) (sym cause.0)
    (λ keys tells. subst (λ w. unwrapped keys request.entries w ≡ None) whole_is ((told old new whole request.entries None keys cause.1 tells).none refl), λ _. taken)
opens_not old new request whole (errors.Refusal refusal) whole_is taken cause = cause
opens_not old new request whole errors.KeyringFault whole_is taken cause = (cause, λ _. taken)
opens_not old new request whole errors.Memory whole_is taken cause = tt

-- The key is the one that the keys open that the keyring went by.
pub found_by : (old new : KeyringMeaning) (request : DecRequestValue) (whole : List KeyValue) (key : List ℕ) (found : DecMaterialsValue) → whole ≡ whole_of request.stored request.given → found.key ≡ key
    → AskedOnce old.uses new.uses (FindsBy whole request.entries (Ok (Some key))) → default_found new old.uses request found
found_by old new request whole key found whole_is key_is once =
    subst (λ (k : List ℕ). AskedOnce old.uses new.uses (FindsBy (whole_of request.stored request.given) request.entries (Ok (Some k)))) (sym key_is)
    (subst (λ (w : List KeyValue). AskedOnce old.uses new.uses (FindsBy w request.entries (Ok (Some key)))) whole_is once)
