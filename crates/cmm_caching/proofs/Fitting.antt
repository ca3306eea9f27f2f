-- Materials are what their name says: those that the inner manager gave, and those of an entry.
use Rattle.std.proofs.Common.{◌≡◌, ℕ, List, false, refl, sym, ap, subst}
use Rattle.keyring_trait.specs.declared.served.Served.{Served}
use Rattle.keyring_trait.specs.Manager.{ManagerNow, GivesMaterials}
use Rattle.keyring_trait.specs.Materials.{EncMaterialsValue, DecMaterialsValue, AreEncMaterials}
use Rattle.keyring_trait.specs.Requests.{EncRequestValue, DecRequestValue}
use Rattle.cmm_caching.specs.Names.{NameValue, enc_name, dec_name}
use Rattle.cmm_caching.specs.Ask.{GivenValue, HandedValue, enc_given, dec_given, enc_handed, dec_handed}
use Rattle.cmm_caching.specs.Store.{Store, FitsSeal, FitsUnseal, FitsName, is_past}
use Rattle.cmm_caching.specs.CachingCmm.{WasGiven, WasFound}
use Rattle.cmm_caching.proofs.Asking.{same_width}

-- ---- to encrypt

pub gave_fits : (n : ManagerNow) (request : EncRequestValue) (random : List ℕ) (made : EncMaterialsValue) (given : GivenValue)
    → GivesMaterials n request random made → given ≡ enc_given made → AreEncMaterials made.context made.required made.entries
    → FitsSeal n.meaning.wraps (enc_name request) given
gave_fits n request random made given gives is materials =
    subst (FitsSeal n.meaning.wraps (enc_name request)) (sym is)
    (record { context = gives.context; only = refl; required = gives.required; count = gives.count; materials = materials })

-- what the inner manager gave is what it gave last
pub was_given : (Gave : EncMaterialsValue → Type 0) (made : EncMaterialsValue) (given : GivenValue) → Gave made → given ≡ enc_given made → WasGiven Gave given
was_given Gave made given gave is = subst (WasGiven Gave) (sym is) (record { way = made.served; last = gave })

-- what fits the request fits its name in the cache, and the other way round
pub fits_name : (wraps : ℕ) (s : Store) (request : EncRequestValue) (name : NameValue) (given : GivenValue) → is_past wraps s ≡ false → name ≡ enc_name request
    → FitsSeal wraps (enc_name request) given → FitsName s.width name given
fits_name wraps s request name given within is fits =
    subst (λ (n : NameValue). FitsName s.width n given) (sym is) (subst (λ (width : ℕ). FitsSeal width (enc_name request) given) (same_width wraps s within) fits)

pub name_fits : (wraps : ℕ) (s : Store) (request : EncRequestValue) (name : NameValue) (given : GivenValue) → is_past wraps s ≡ false → name ≡ enc_name request
    → FitsName s.width name given → FitsSeal wraps (enc_name request) given
name_fits wraps s request name given within is fits =
    subst (λ (width : ℕ). FitsSeal width (enc_name request) given) (sym (same_width wraps s within)) (subst (λ (n : NameValue). FitsName s.width n given) is fits)

-- ---- to decrypt

pub was_found : (Found : DecMaterialsValue → Type 0) (found : DecMaterialsValue) (given : GivenValue) → Found found → given ≡ dec_given found → WasFound Found given
was_found Found found given last is = subst (WasFound Found) (sym is) (record { way = found.served; last = last })

pub found_fits_name : (width : ℕ) (request : DecRequestValue) (name : NameValue) (given : GivenValue) → name ≡ dec_name request
    → FitsUnseal (dec_name request) given → FitsName width name given
found_fits_name width request name given is fits = subst (λ (n : NameValue). FitsName width n given) (sym is) fits

pub name_fits_found : (width : ℕ) (request : DecRequestValue) (name : NameValue) (given : GivenValue) → name ≡ dec_name request
    → FitsName width name given → FitsUnseal (dec_name request) given
name_fits_found width request name given is fits = subst (λ (n : NameValue). FitsName width n given) is fits

-- ---- what is true of materials is true of them as they are handed out

pub enc_handed_so : (P : GivenValue → Type 0) (m : EncMaterialsValue) (given : GivenValue) (served : Served) → enc_handed m ≡ record { given = given; served = served }
    → P given → P (enc_given m)
enc_handed_so P m given served is p = subst P (sym (ap (λ (h : HandedValue). h.given) is)) p

pub dec_handed_so : (P : GivenValue → Type 0) (m : DecMaterialsValue) (given : GivenValue) (served : Served) → dec_handed m ≡ record { given = given; served = served }
    → P given → P (dec_given m)
dec_handed_so P m given served is p = subst P (sym (ap (λ (h : HandedValue). h.given) is)) p
