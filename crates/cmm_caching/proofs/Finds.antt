-- Materials to decrypt, as the manager with a cache gives them; and why it gives none.
use Rattle.std.proofs.Common.{◌≡◌, true, false, List, Option, None, Some, is_none, refl, sym, subst, ◌∙◌}
use Rattle.std.specs.Cmp.{first_so}
use Rattle.esdk_fields.specs.Counts.{Stayed}
use Rattle.esdk_fields.specs.declared.faults.Fault.{Fault}
use Rattle.esdk_fields.specs.declared.faults.Fault.TheVariants as faults
use Rattle.esdk_fields.specs.declared.refusals.Refusal.{Refusal}
use Rattle.esdk_fields.specs.declared.refusals.Refusal.TheVariants as refusals
use Rattle.context_codec.specs.Context.{KeyValue}
use Rattle.keyring_trait.specs.declared.served.Served.TheVariants.{Direct}
use Rattle.keyring_trait.specs.declared.manager_errors.ManagerError.{ManagerError}
use Rattle.keyring_trait.specs.declared.manager_errors.ManagerError.TheVariants as errors
use Rattle.keyring_trait.specs.Manager.{ManagerMeaning, ManagerNow, Went, IsNew, FindsMaterials, FindsNone, FaultStands, GivesNone, RefusalStands, request_refusal}
use Rattle.keyring_trait.specs.Materials.{DecMaterialsValue}
use Rattle.keyring_trait.specs.Requests.{EncRequestValue, DecRequestValue}
use Rattle.keyring_trait.specs.Wrapping.{WrapKeyValue, IsOpened, unwrapped}
use Rattle.cmm_caching.specs.Names.{dec_name}
use Rattle.cmm_caching.specs.Ask.{GivenValue, dec_given}
use Rattle.cmm_caching.specs.Store.{Store, FitsUnseal}
use Rattle.cmm_caching.specs.Asked.{NotHit}
use Rattle.cmm_caching.specs.Holding.{IsRight, IsExact, OpensRight, unfailing}
use Rattle.cmm_caching.specs.CachingCmm.{caching_meaning, caching_now, CachingTells, CachingExact, GaveToOpen}
use Rattle.cmm_caching.proofs.Meanings.{not_served}

module _ (m n : ManagerNow) (request : DecRequestValue) where
  -- what the inner manager gave is what its keys give, and what an exact manager gives
  pub found_right : (cache : Option Store) (given : GivenValue) (keys : List WrapKeyValue) → Went m n → CachingTells cache m keys → is_none cache ≡ false
      → GaveToOpen m n request given → IsRight keys (dec_name request) given
  found_right cache given keys went told cached gave = record {
    opened = gave.gave.opened keys told.told;
    first = gave.gave.first keys told.told (went.goes.still (told.steady cached));
  }

  pub found_exact : (cache : Option Store) (given : GivenValue) → CachingExact cache m → GaveToOpen m n request given
      → IsExact (unfailing m.meaning) (dec_name request) given
  found_exact cache given exact gave = gave.gave.unfaulted exact.exact

  -- The keys that are told open an entry with the data key that is found; and it is that of the first that opens one, where nothing failed.
  abbrev FoundBy : DecMaterialsValue → List WrapKeyValue → Type 0
  FoundBy found keys =
      IsOpened keys request.entries found.context found.key
      × (Stayed m.meaning.faults n.meaning.faults → unwrapped keys request.entries found.context ≡ Some found.key)

  -- without a cache it is what the inner manager found
  found_by : (cache : Option Store) (found : DecMaterialsValue) → (is_none cache ≡ true → found.served ≡ Direct) → NotHit found.served (GaveToOpen m n request (dec_given found))
      → ((keys : List WrapKeyValue) → is_none cache ≡ false → CachingTells cache m keys → IsRight keys (dec_name request) (dec_given found))
      → (keys : List WrapKeyValue) → CachingTells cache m keys → FoundBy found keys
  found_by None found direct got right keys told =
      let gave : GaveToOpen m n request (dec_given found) = not_served found.served (GaveToOpen m n request (dec_given found)) (subst IsNew (sym (direct refl)) tt) got in
      (gave.gave.opened keys told.told, gave.gave.first keys told.told)
  found_by (Some store) found direct got right keys told =
      let so : OpensRight keys (dec_name request) (dec_given found) = right keys refl told in
      (so.opened, λ stayed. so.first)

  pub finds_materials : (cache later : Option Store) (found : DecMaterialsValue) → FitsUnseal (dec_name request) (dec_given found)
      → (is_none cache ≡ true → found.served ≡ Direct)
      → NotHit found.served (GaveToOpen m n request (dec_given found))
      → ((keys : List WrapKeyValue) → is_none cache ≡ false → CachingTells cache m keys → IsRight keys (dec_name request) (dec_given found))
      → (CachingExact cache m → IsExact (unfailing m.meaning) (dec_name request) (dec_given found))
      → FindsMaterials (caching_now cache m) (caching_now later n) request found
  finds_materials cache later found fits direct got right exact = record {
    context = fits.context;
    only = fits.only;
    opened = λ keys told. (found_by cache found direct got right keys told).0;
    first = λ keys told stayed. (found_by cache found direct got right keys told).1 stayed;
    plain = λ p. direct (first_so (is_none cache) m.meaning.plain p);
    unfaulted = exact;
  }

  -- ---- why there are none

  fault_stands : (cache : Option Store) (fault : Fault) → FaultStands m.tells request fault → FaultStands (CachingTells cache m) request fault
  fault_stands cache faults.NoKeyOpens stands = λ keys told. stands keys told.told
  fault_stands cache faults.ReservedKey stands = stands
  fault_stands cache (faults.ContextMismatch key) stands = stands
  fault_stands cache (faults.MissingRequired key) stands = stands
  fault_stands cache (faults.ContextTooLong n) stands = stands
  fault_stands cache fault stands = absurd stands

  pub finds_none : (cache later : Option Store) (e : ManagerError) → FindsNone m n request e
      → FindsNone (caching_now cache m) (caching_now later n) request e
  finds_none cache later (errors.Fault fault) none = (fault_stands cache fault none.0, λ x. none.1 x.exact)
  finds_none cache later errors.KeyringFault none = (none.0, λ x. none.1 x.exact)
  finds_none cache later (errors.Refusal refusal) none = none
  finds_none cache later errors.Memory none = none

-- the cache plays no part in what is refused
refused_same : (cache : Option Store) (m : ManagerMeaning) (context : List KeyValue) → request_refusal (caching_meaning cache m) context ≡ request_refusal m context
unfolding request_refusal
refused_same cache m context = refl

module _ (m n : ManagerNow) (request : EncRequestValue) where
  refusal_stands : (cache : Option Store) (refusal : Refusal) → RefusalStands m.meaning request.context refusal → RefusalStands (caching_meaning cache m.meaning) request.context refusal
  refusal_stands cache (refusals.ReservedPrefix key) stands = stands
  refusal_stands cache (refusals.RequiredAbsent key) stands = stands
  refusal_stands cache refusals.NoGenerator stands = stands
  refusal_stands cache refusals.GeneratorHasKey stands = stands
  refusal_stands cache refusal stands = absurd stands

  pub gives_none : (cache later : Option Store) (e : ManagerError) → GivesNone m n request e
      → GivesNone (caching_now cache m) (caching_now later n) request e
  gives_none cache later (errors.Refusal refusal) none = (refusal_stands cache refusal none.0, λ x. refused_same cache m.meaning request.context ∙ none.1 x.exact)
  gives_none cache later errors.KeyringFault none = (none.0, λ x. refused_same cache m.meaning request.context ∙ none.1 x.exact)
  gives_none cache later (errors.Fault fault) none = none
  gives_none cache later errors.Memory none = none
