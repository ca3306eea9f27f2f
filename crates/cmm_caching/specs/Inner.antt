-- What the inner manager comes to in a call, and what is handed out then.
use Rattle.std.specs.Prelude.{ℕ, List, Result, IfOk, IfErr}
use Rattle.keyring_trait.specs.declared.manager_errors.ManagerError.{ManagerError}
use Rattle.keyring_trait.specs.Manager.{ManagerNow, Went, GivesNone, FindsNone}
use Rattle.keyring_trait.specs.Materials.{EncMaterialsValue, DecMaterialsValue}
use Rattle.keyring_trait.specs.Requests.{EncRequestValue, DecRequestValue}
use Rattle.cmm_caching.specs.Names.{enc_name, dec_name}
use Rattle.cmm_caching.specs.Ask.{enc_given, dec_given}
use Rattle.cmm_caching.specs.Asked.{NotHit}
use Rattle.cmm_caching.specs.CachingCmm.{GaveToSeal, GaveToOpen, CachingGave, CachingFound}
use Rattle.cmm_caching.specs.Store.{FitsSeal, FitsUnseal}

-- A request to encrypt: the inner manager went on so, and an error is one of its own. Materials fit
-- the request. What isn't a hit is what it gave to the request, and gave last.
pub record SealsOver (old new : ManagerNow) (request : EncRequestValue) (now : ℕ) (random : List ℕ)
    (result : Result EncMaterialsValue ManagerError) : Type 0 where
  pub went : Went old new
  pub cause : IfErr result (GivesNone old new request)
  pub fits : IfOk result (λ m. FitsSeal old.meaning.wraps (enc_name request) (enc_given m))
  pub got : IfOk result (λ m. NotHit m.served (GaveToSeal old request random (enc_given m)))
  pub last : IfOk result (CachingGave (new.gave old.uses request now random))

-- A request to decrypt: the same of what it found.
pub record OpensOver (old new : ManagerNow) (request : DecRequestValue) (now : ℕ)
    (result : Result DecMaterialsValue ManagerError) : Type 0 where
  pub went : Went old new
  pub cause : IfErr result (FindsNone old new request)
  pub fits : IfOk result (λ m. FitsUnseal (dec_name request) (dec_given m))
  pub got : IfOk result (λ m. NotHit m.served (GaveToOpen old new request (dec_given m)))
  pub last : IfOk result (CachingFound (new.found old.uses request now))
