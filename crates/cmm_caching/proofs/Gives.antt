-- Materials to encrypt, as the manager with a cache gives them.
use Rattle.std.proofs.Common.{◌≡◌, ℕ, true, List, Option, is_none, refl, sym, subst, ◌∙◌}
use Rattle.std.specs.Cmp.{first_so}
use Rattle.keyring_trait.specs.declared.served.Served.{Served}
use Rattle.keyring_trait.specs.declared.served.Served.TheVariants.{Direct}
use Rattle.context_codec.specs.Context.{KeyValue}
use Rattle.keyring_trait.specs.Manager.{ManagerMeaning, ManagerNow, GivesMaterials, AreWraps, AreDrawn, IsNew, request_refusal}
use Rattle.keyring_trait.specs.Materials.{EncMaterialsValue}
use Rattle.keyring_trait.specs.Requests.{EncRequestValue}
use Rattle.keyring_trait.specs.Wrapping.{WrapKeyValue}
use Rattle.cmm_caching.specs.Names.{enc_name}
use Rattle.cmm_caching.specs.Ask.{GivenValue, enc_given, seal_materials}
use Rattle.cmm_caching.specs.Store.{Store, FitsSeal}
use Rattle.cmm_caching.specs.Asked.{NotHit}
use Rattle.cmm_caching.specs.Holding.{IsRight, IsExact, unfailing}
use Rattle.cmm_caching.specs.CachingCmm.{caching_meaning, caching_now, CachingTells, CachingExact, GaveToSeal}
use Rattle.cmm_caching.proofs.Meanings.{not_served, refusal_same}

-- how they were served doesn't matter to the wraps
wraps_so : (keys : List WrapKeyValue) (served way : Served) (given : GivenValue) → AreWraps keys (seal_materials way given) → AreWraps keys (seal_materials served given)
wraps_so keys served way given h = record { ivs = h.ivs; are_ivs = h.are_ivs; entries = h.entries }

-- nor does the cache to what is refused
refusal_caching : (cache : Option Store) (m : ManagerMeaning) (context : List KeyValue) → request_refusal (caching_meaning cache m) context ≡ request_refusal (unfailing m) context
unfolding request_refusal
refusal_caching cache m context = refl

module _ (m : ManagerNow) (request : EncRequestValue) (random : List ℕ) where
  -- what the inner manager gave is what its keys give, and what an exact manager gives
  pub gave_right : (cache : Option Store) (given : GivenValue) (keys : List WrapKeyValue) → CachingTells cache m keys → GaveToSeal m request random given
      → IsRight keys (enc_name request) given
  gave_right cache given keys told gave = wraps_so keys Direct gave.way given (gave.gave.wrapped keys told.told)

  pub gave_exact : (cache : Option Store) (given : GivenValue) → CachingExact cache m → GaveToSeal m request random given
      → IsExact (unfailing m.meaning) (enc_name request) given
  gave_exact cache given exact gave = record {
    demanded = gave.gave.demanded exact.exact;
    unrefused = refusal_same m.meaning request.context ∙ gave.gave.unrefused exact.exact;
  }

  -- the data key is drawn where the inner manager is plain
  drawn : (cache : Option Store) (made : EncMaterialsValue) → (m.meaning.plain ≡ true → m.meaning.fresh ≡ true) → NotHit made.served (GaveToSeal m request random (enc_given made))
      → m.meaning.plain ≡ true → IsNew made.served → AreDrawn m.meaning.wraps (CachingTells cache m) random made
  drawn cache made fresh got plain new = by_gave (not_served made.served (GaveToSeal m request random (enc_given made)) new got)
    where
      by_gave : GaveToSeal m request random (enc_given made) → AreDrawn m.meaning.wraps (CachingTells cache m) random made
      by_gave gave =
          let way : gave.way ≡ Direct = gave.gave.plain plain in
          let d : AreDrawn m.meaning.wraps m.tells random (seal_materials gave.way (enc_given made)) = gave.gave.fresh (fresh plain) (subst IsNew (sym way) tt) in
          record { key = d.key; entries = λ keys told. d.entries keys told.told }

  pub gives_materials : (cache : Option Store) (made : EncMaterialsValue) → (m.meaning.plain ≡ true → m.meaning.fresh ≡ true)
      → FitsSeal m.meaning.wraps (enc_name request) (enc_given made)
      → NotHit made.served (GaveToSeal m request random (enc_given made))
      → (is_none cache ≡ true → made.served ≡ Direct)
      → ((keys : List WrapKeyValue) → CachingTells cache m keys → IsRight keys (enc_name request) (enc_given made))
      → (CachingExact cache m → IsExact (unfailing m.meaning) (enc_name request) (enc_given made))
      → GivesMaterials (caching_now cache m) request random made
  gives_materials cache made fresh fits got direct right exact = record {
    context = fits.context;
    required = fits.required;
    count = fits.count;
    wrapped = λ keys told. wraps_so keys made.served Direct (enc_given made) (right keys told);
    fresh = drawn cache made fresh got;
    plain = λ p. direct (first_so (is_none cache) m.meaning.plain p);
    demanded = λ x. (exact x).demanded;
    unrefused = λ x. refusal_caching cache m.meaning request.context ∙ (exact x).unrefused;
  }
