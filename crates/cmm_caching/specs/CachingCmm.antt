-- What a manager with a cache is to its callers, over the manager that it asks. AWS Encryption SDK
-- Specification, "Caching CMM".
use Rattle.std.specs.Prelude.{◌≡◌, ℕ, true, false, ◌&&◌, List, Option, is_none}
use Rattle.keyring_trait.specs.declared.served.Served.{Served}
use Rattle.keyring_trait.specs.Manager.{ManagerMeaning, ManagerNow, GivesMaterials, FindsMaterials}
use Rattle.keyring_trait.specs.Materials.{EncMaterialsValue, DecMaterialsValue}
use Rattle.keyring_trait.specs.Requests.{EncRequestValue, DecRequestValue}
use Rattle.keyring_trait.specs.Wrapping.{WrapKeyValue}
use Rattle.cmm_caching.specs.Ask.{GivenValue, enc_given, dec_given, seal_materials, open_materials}
use Rattle.cmm_caching.specs.Asked.{NotHit, store_limits}
use Rattle.cmm_caching.specs.Store.{Store}
use Rattle.cmm_caching.specs.Journal.{BearsWith, KeepsWithin}
use Rattle.cmm_caching.specs.Holding.{HoldsOfEachEntry, IsRight, IsExact, unfailing}

-- It wraps, refuses, fails and demands as that manager does. It is fresh where that one is plain,
-- and plain where it has no cache, too.
abbrev pub caching_meaning : Option Store → ManagerMeaning → ManagerMeaning
caching_meaning cache inner = record inner {
  fresh = inner.plain;
  plain = is_none cache && inner.plain;
}

-- It tells the keys that the inner manager tells. With a cache, it does so where that manager is
-- steady and every entry is what these keys give.
pub record CachingTells (cache : Option Store) (inner : ManagerNow)
    (keys : List WrapKeyValue) : Type 0 where
  pub told : inner.tells keys
  pub steady : is_none cache ≡ false → inner.meaning.steady ≡ true
  pub right : HoldsOfEachEntry (IsRight keys) cache

-- It is exact where the inner manager is, and every entry is what an exact manager gives.
pub record CachingExact (cache : Option Store) (inner : ManagerNow) : Type 0 where
  pub exact : inner.exact
  pub kept : HoldsOfEachEntry (IsExact (unfailing inner.meaning)) cache

-- ---- what the inner manager gave, without how it served it

-- Such materials to encrypt are the inner manager's answer to the request.
pub record GaveToSeal (inner : ManagerNow) (request : EncRequestValue) (random : List ℕ)
    (given : GivenValue) : Type 0 where
  pub way : Served
  pub gave : GivesMaterials inner request random (seal_materials way given)

-- Such materials to decrypt are the inner manager's answer to the request.
pub record GaveToOpen (old new : ManagerNow) (request : DecRequestValue)
    (given : GivenValue) : Type 0 where
  pub way : Served
  pub gave : FindsMaterials old new request (open_materials way given)

-- Such materials to encrypt are the last that the inner manager gave, however it served them;
-- `Gave` says what it gave.
pub record WasGiven (Gave : EncMaterialsValue → Type 0) (given : GivenValue) : Type 0 where
  pub way : Served
  pub last : Gave (seal_materials way given)

-- Such materials to decrypt are the last that the inner manager found; `Found` says what it found.
pub record WasFound (Found : DecMaterialsValue → Type 0) (given : GivenValue) : Type 0 where
  pub way : Served
  pub last : Found (open_materials way given)

-- What wasn't served from an entry is what the inner manager gave last.
abbrev pub CachingGave : (EncMaterialsValue → Type 0) → EncMaterialsValue → Type 0
CachingGave Gave made = NotHit made.served (WasGiven Gave (enc_given made))

abbrev pub CachingFound : (DecMaterialsValue → Type 0) → DecMaterialsValue → Type 0
CachingFound Found found = NotHit found.served (WasFound Found (dec_given found))

-- ---- the manager at a moment

-- It bears what its cache bears, within the limits of its cache. What isn't a hit was given by the
-- inner manager in that call.
abbrev pub caching_now : Option Store → ManagerNow → ManagerNow
caching_now cache inner = record {
  meaning = caching_meaning cache inner.meaning;
  tells = CachingTells cache inner;
  exact = CachingExact cache inner;
  bears = BearsWith cache;
  within = KeepsWithin (store_limits cache);
  uses = inner.uses;
  gave = λ before request now random. CachingGave (inner.gave before request now random);
  found = λ before request now. CachingFound (inner.found before request now);
}
