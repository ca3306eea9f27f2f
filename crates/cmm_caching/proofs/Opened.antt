-- What the manager with a cache promises of an answer to a request to decrypt.
use Rattle.std.proofs.Common.{◌≡◌, ℕ, Bool, false, List, Option, None, is_none, Result, Ok, Err, IfOk, IfErr, refl}
use Rattle.keyring_trait.specs.declared.manager_errors.ManagerError.{ManagerError}
use Rattle.keyring_trait.specs.declared.journal.Kind.TheVariants.{Unseal}
use Rattle.keyring_trait.specs.Manager.{ManagerNow, Went, FindsMaterials, FindsNone, BearsOn, dec_served}
use Rattle.keyring_trait.specs.Materials.{DecMaterialsValue}
use Rattle.keyring_trait.specs.Requests.{DecRequestValue}
use Rattle.keyring_trait.specs.Wrapping.{WrapKeyValue}
use Rattle.cmm_caching.specs.Names.{dec_name}
use Rattle.cmm_caching.specs.Ask.{CacheState, dec_given, dec_handed, dec_wish}
use Rattle.cmm_caching.specs.Store.{Store, FitsUnseal, StoreStandsFor}
use Rattle.cmm_caching.specs.Asked.{AskedWith, AnswersAs, StandsAfter, IsSound, NotHit, WhereAnswered, WhereKept, store_limits}
use Rattle.cmm_caching.specs.Holding.{IsRight, IsExact, unfailing}
use Rattle.cmm_caching.specs.CachingCmm.{caching_now, CachingTells, CachingExact, GaveToOpen}
use Rattle.cmm_caching.specs.Inner.{OpensOver}
use Rattle.cmm_caching.proofs.Finds.{found_right, found_exact, finds_materials, finds_none}
use Rattle.cmm_caching.proofs.Meanings.{map_not_hit, map_ok, holds_cached, holds_then}
use Rattle.cmm_caching.proofs.Whole.{same_kind, same_limits, went_caching, none_direct, rights, answers, stands_then, bears_then, where_answered}

-- nothing that is decrypted goes past the cache for the number of encrypted data keys
abbrev never : Store → Bool
never _ = false

module _ (old new : Option Store) (m n : ManagerNow) (request : DecRequestValue) (now : ℕ)
    (r : Result DecMaterialsValue ManagerError) where
  abbrev IsAsked : Type 0
  IsAsked = AskedWith dec_handed never old new (dec_wish request) now r

  abbrev IsGot : Type 0
  IsGot = IfOk r (λ found. NotHit found.served (GaveToOpen m n request (dec_given found)))

  right_got : Went m n → (keys : List WrapKeyValue) → CachingTells old m keys → is_none old ≡ false → IsGot → IfOk r (λ found. NotHit found.served (IsRight keys (dec_name request) (dec_given found)))
  right_got went keys t cached got =
      map_ok (λ found. NotHit found.served (GaveToOpen m n request (dec_given found))) (λ found. NotHit found.served (IsRight keys (dec_name request) (dec_given found))) r
      (λ found. map_not_hit (GaveToOpen m n request (dec_given found)) (IsRight keys (dec_name request) (dec_given found)) found.served
      (found_right m n request old (dec_given found) keys went t cached)) got

  exact_got : CachingExact old m → IsGot → IfOk r (λ found. NotHit found.served (IsExact (unfailing m.meaning) (dec_name request) (dec_given found)))
  exact_got x got =
      map_ok (λ found. NotHit found.served (GaveToOpen m n request (dec_given found))) (λ found. NotHit found.served (IsExact (unfailing m.meaning) (dec_name request) (dec_given found))) r
      (λ found. map_not_hit (GaveToOpen m n request (dec_given found)) (IsExact (unfailing m.meaning) (dec_name request) (dec_given found)) found.served
      (found_exact m n request old (dec_given found) x)) got

  open_went : Went m n → IsAsked → IsGot → Went (caching_now old m) (caching_now new n)
  open_went went asked got =
      went_caching old new m n (same_kind dec_handed never (dec_wish request) now old new r asked) (same_limits dec_handed never (dec_wish request) now old new r asked) went
      (λ keys t. holds_cached (IsRight keys) old new (same_kind dec_handed never (dec_wish request) now old new r asked)
      (λ cached. holds_then dec_handed (dec_name request) old new r (rights dec_handed never (dec_wish request) now old new r asked) (IsRight keys) t.right (right_got went keys t cached got)))
      (λ x. holds_then dec_handed (dec_name request) old new r (rights dec_handed never (dec_wish request) now old new r asked) (IsExact (unfailing m.meaning)) x.kept (exact_got x got))

  open_bears : IsSound old → IsAsked → BearsOn (caching_now old m) (caching_now new n) Unseal now None dec_served r
  open_bears sound asked = bears_then dec_handed never (dec_wish request) now Unseal old new r sound (λ s kept. tt) asked

  open_answers : (s : CacheState) → IsAsked → StoreStandsFor m.meaning.wraps old s → AnswersAs dec_handed (store_limits old) s (dec_wish request) now r
  open_answers s asked stands = answers dec_handed never (dec_wish request) now m.meaning.wraps old new s r (λ c e. refl) asked stands

  open_stands : (s : CacheState) → Went m n → IsAsked → StoreStandsFor m.meaning.wraps old s → StandsAfter dec_handed (store_limits old) n.meaning.wraps new s (dec_wish request) now r
  open_stands s went asked stands = stands_then dec_handed never (dec_wish request) now m.meaning.wraps n.meaning.wraps old new s r went.goes.wraps (λ c e. refl) asked stands

module _ (old new : Option Store) (m n : ManagerNow) (request : DecRequestValue) (now : ℕ) where
  open_finds : (r : Result DecMaterialsValue ManagerError) → Went m n → IfOk r (λ found. FitsUnseal (dec_name request) (dec_given found))
      → AskedWith dec_handed never old new (dec_wish request) now r → IfOk r (λ found. NotHit found.served (GaveToOpen m n request (dec_given found)))
      → IfOk r (FindsMaterials (caching_now old m) (caching_now new n) request)
  open_finds (Err e) went fits asked got = tt
  open_finds (Ok found) went fits asked got =
      finds_materials m n request old new found fits
      (none_direct ManagerError dec_handed never (dec_wish request) now old new found asked)
      got
      (λ keys cached t. (rights dec_handed never (dec_wish request) now old new (Ok found) asked (IsRight keys) t.right
      (map_not_hit (GaveToOpen m n request (dec_given found)) (IsRight keys (dec_name request) (dec_given found)) found.served
      (found_right m n request old (dec_given found) keys went t cached) got)).0)
      (λ x. (rights dec_handed never (dec_wish request) now old new (Ok found) asked (IsExact (unfailing m.meaning)) x.kept
      (map_not_hit (GaveToOpen m n request (dec_given found)) (IsExact (unfailing m.meaning) (dec_name request) (dec_given found)) found.served
      (found_exact m n request old (dec_given found) x) got)).0)

  open_cause : (r : Result DecMaterialsValue ManagerError) → IfErr r (FindsNone m n request)
      → IfErr r (FindsNone (caching_now old m) (caching_now new n) request)
  open_cause (Ok found) none = tt
  open_cause (Err e) none = finds_none m n request old new e none

-- what is so where an entry of the cache answers, is so where one of the state does
pub open_answered : (P : Type 0) (old : Option Store) (m : ManagerNow) (request : DecRequestValue) (now : ℕ) (s : CacheState)
    → WhereKept (λ _. false) old (dec_wish request) now P → StoreStandsFor m.meaning.wraps old s → WhereAnswered (store_limits old) s (dec_wish request) now P
open_answered P old m request now s kept stands = where_answered (λ _. false) (dec_wish request) now P m.meaning.wraps old s (λ c e. refl) kept stands

-- All that is promised of the answer.
pub record OpenPromises (old new : Option Store) (m n : ManagerNow) (request : DecRequestValue) (now : ℕ)
    (r : Result DecMaterialsValue ManagerError) : Type 0 where
  pub went : Went (caching_now old m) (caching_now new n)
  pub finds : IfOk r (FindsMaterials (caching_now old m) (caching_now new n) request)
  pub cause : IfErr r (FindsNone (caching_now old m) (caching_now new n) request)
  pub bears : BearsOn (caching_now old m) (caching_now new n) Unseal now None dec_served r
  pub answers : (s : CacheState) → StoreStandsFor m.meaning.wraps old s → AnswersAs dec_handed (store_limits old) s (dec_wish request) now r
  pub stands : (s : CacheState) → StoreStandsFor m.meaning.wraps old s → StandsAfter dec_handed (store_limits old) n.meaning.wraps new s (dec_wish request) now r
  pub limits : store_limits new ≡ store_limits old

pub open_promises : (old new : Option Store) (m n : ManagerNow) (request : DecRequestValue) (now : ℕ)
    (r : Result DecMaterialsValue ManagerError) → OpensOver m n request now r → AskedWith dec_handed (λ _. false) old new (dec_wish request) now r → IsSound old
    → OpenPromises old new m n request now r
open_promises old new m n request now r opens asked sound = record {
  went = open_went old new m n request now r opens.went asked opens.got;
  finds = open_finds old new m n request now r opens.went opens.fits asked opens.got;
  cause = open_cause old new m n request now r opens.cause;
  bears = open_bears old new m n request now r sound asked;
  answers = λ s stands. open_answers old new m n request now r s asked stands;
  stands = λ s stands. open_stands old new m n request now r s opens.went asked stands;
  limits = same_limits dec_handed never (dec_wish request) now old new r asked;
}
