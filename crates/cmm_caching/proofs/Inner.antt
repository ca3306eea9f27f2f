-- What is handed out: what the inner manager gave, or what an entry gives.
use Rattle.std.proofs.Common.{◌≡◌, ℕ, List, Ok, Err, sym, ap, subst}
use Rattle.keyring_trait.specs.declared.manager_errors.ManagerError.{ManagerError}
use Rattle.keyring_trait.specs.declared.served.Served.{Served}
use Rattle.keyring_trait.specs.declared.served.Served.TheVariants.{Direct, New, Hit}
use Rattle.keyring_trait.specs.Manager.{ManagerNow, Went, GivesNone, FindsNone}
use Rattle.keyring_trait.specs.Materials.{EncMaterialsValue, DecMaterialsValue}
use Rattle.keyring_trait.specs.Requests.{EncRequestValue, DecRequestValue}
use Rattle.cmm_caching.specs.Names.{enc_name, dec_name}
use Rattle.cmm_caching.specs.Ask.{GivenValue, HandedValue, enc_given, dec_given, enc_handed, dec_handed}
use Rattle.cmm_caching.specs.Asked.{NotHit}
use Rattle.cmm_caching.specs.CachingCmm.{GaveToSeal, GaveToOpen, WasGiven, WasFound}
use Rattle.cmm_caching.specs.Inner.{SealsOver, OpensOver}
use Rattle.cmm_caching.specs.Store.{FitsSeal, FitsUnseal}
use Rattle.cmm_caching.proofs.Fitting.{enc_handed_so, dec_handed_so}

-- what is so of all materials is so of those that aren't served from an entry
not_hit : (served : Served) (P : Type 0) → P → NotHit served P
not_hit Direct P p = p
not_hit (New number) P p = p
not_hit (Hit number) P p = tt

-- nothing is said of a hit
of_hit : (h : HandedValue) (given : GivenValue) (number : ℕ) (P : Type 0) → h ≡ record { given = given; served = Hit number } → NotHit h.served P
of_hit h given number P is = subst (λ (served : Served). NotHit served P) (sym (ap (λ (h : HandedValue). h.served) is)) tt

-- ---- to encrypt

module _ (old new : ManagerNow) (request : EncRequestValue) (now : ℕ) (random : List ℕ) where
  -- what the inner manager gave
  pub seals_given : (given : GivenValue) (served : Served) (m : EncMaterialsValue) → Went old new → FitsSeal old.meaning.wraps (enc_name request) given
      → GaveToSeal old request random given → WasGiven (new.gave old.uses request now random) given
      → enc_handed m ≡ record { given = given; served = served } → SealsOver old new request now random (Ok m)
  seals_given given served m went fits got last is = record {
    went = went;
    cause = tt;
    fits = enc_handed_so (FitsSeal old.meaning.wraps (enc_name request)) m given served is fits;
    got = not_hit m.served (GaveToSeal old request random (enc_given m)) (enc_handed_so (GaveToSeal old request random) m given served is got);
    last = not_hit m.served (WasGiven (new.gave old.uses request now random) (enc_given m)) (enc_handed_so (WasGiven (new.gave old.uses request now random)) m given served is last);
  }

  -- what an entry gives
  pub seals_again : (given : GivenValue) (number : ℕ) (m : EncMaterialsValue) → Went old new → FitsSeal old.meaning.wraps (enc_name request) given
      → enc_handed m ≡ record { given = given; served = Hit number } → SealsOver old new request now random (Ok m)
  seals_again given number m went fits is = record {
    went = went;
    cause = tt;
    fits = enc_handed_so (FitsSeal old.meaning.wraps (enc_name request)) m given (Hit number) is fits;
    got = of_hit (enc_handed m) given number (GaveToSeal old request random (enc_given m)) is;
    last = of_hit (enc_handed m) given number (WasGiven (new.gave old.uses request now random) (enc_given m)) is;
  }

  -- nothing
  pub seals_none : (e : ManagerError) → Went old new → GivesNone old new request e → SealsOver old new request now random (Err e)
  seals_none e went none = record { went = went; cause = none; fits = tt; got = tt; last = tt }

-- ---- to decrypt

module _ (old new : ManagerNow) (request : DecRequestValue) (now : ℕ) where
  -- what the inner manager found
  pub opens_found : (given : GivenValue) (served : Served) (m : DecMaterialsValue) → Went old new → FitsUnseal (dec_name request) given
      → GaveToOpen old new request given → WasFound (new.found old.uses request now) given
      → dec_handed m ≡ record { given = given; served = served } → OpensOver old new request now (Ok m)
  opens_found given served m went fits got last is = record {
    went = went;
    cause = tt;
    fits = dec_handed_so (FitsUnseal (dec_name request)) m given served is fits;
    got = not_hit m.served (GaveToOpen old new request (dec_given m)) (dec_handed_so (GaveToOpen old new request) m given served is got);
    last = not_hit m.served (WasFound (new.found old.uses request now) (dec_given m)) (dec_handed_so (WasFound (new.found old.uses request now)) m given served is last);
  }

  -- what an entry gives
  pub opens_again : (given : GivenValue) (number : ℕ) (m : DecMaterialsValue) → Went old new → FitsUnseal (dec_name request) given
      → dec_handed m ≡ record { given = given; served = Hit number } → OpensOver old new request now (Ok m)
  opens_again given number m went fits is = record {
    went = went;
    cause = tt;
    fits = dec_handed_so (FitsUnseal (dec_name request)) m given (Hit number) is fits;
    got = of_hit (dec_handed m) given number (GaveToOpen old new request (dec_given m)) is;
    last = of_hit (dec_handed m) given number (WasFound (new.found old.uses request now) (dec_given m)) is;
  }

  -- nothing
  pub opens_none : (e : ManagerError) → Went old new → FindsNone old new request e → OpensOver old new request now (Err e)
  opens_none e went none = record { went = went; cause = none; fits = tt; got = tt; last = tt }
