-- What the manager with a cache promises of an answer to a request to encrypt.
use Rattle.std.proofs.Common.{◌≡◌, ℕ, true, List, Option, Result, Ok, Err, IfOk, IfErr, refl}
use Rattle.keyring_trait.specs.declared.manager_errors.ManagerError.{ManagerError}
use Rattle.keyring_trait.specs.declared.journal.Kind.TheVariants.{Seal}
use Rattle.keyring_trait.specs.Manager.{ManagerNow, Went, GivesMaterials, GivesNone, BearsOn, enc_served}
use Rattle.keyring_trait.specs.Materials.{EncMaterialsValue}
use Rattle.keyring_trait.specs.Requests.{EncRequestValue}
use Rattle.keyring_trait.specs.Wrapping.{WrapKeyValue}
use Rattle.cmm_caching.specs.Names.{enc_name}
use Rattle.cmm_caching.specs.Ask.{CacheState, enc_given, enc_handed, enc_wish}
use Rattle.cmm_caching.specs.Store.{Store, FitsSeal, StoreStandsFor, is_past}
use Rattle.cmm_caching.specs.Asked.{AskedWith, AnswersAs, StandsAfter, IsSound, NotHit, WhereAnswered, WhereKept, store_limits}
use Rattle.cmm_caching.specs.Holding.{IsRight, IsExact, unfailing}
use Rattle.cmm_caching.specs.CachingCmm.{caching_now, CachingTells, CachingExact, GaveToSeal}
use Rattle.cmm_caching.proofs.Bearing.{sized_seal}
use Rattle.cmm_caching.specs.Inner.{SealsOver}
use Rattle.cmm_caching.proofs.Finds.{gives_none}
use Rattle.cmm_caching.proofs.Gives.{gave_right, gave_exact, gives_materials}
use Rattle.cmm_caching.proofs.Meanings.{map_not_hit, map_ok, holds_then}
use Rattle.cmm_caching.proofs.Tallies.{not_past}
use Rattle.cmm_caching.proofs.Whole.{same_kind, same_limits, went_caching, none_direct, rights, answers, stands_then, bears_then, where_answered}

module _ (old new : Option Store) (m n : ManagerNow) (request : EncRequestValue) (now : ℕ) (random : List ℕ)
    (r : Result EncMaterialsValue ManagerError) where
  abbrev IsAsked : Type 0
  IsAsked = AskedWith enc_handed (is_past m.meaning.wraps) old new (enc_wish request) now r

  abbrev IsGot : Type 0
  IsGot = IfOk r (λ made. NotHit made.served (GaveToSeal m request random (enc_given made)))

  right_got : (keys : List WrapKeyValue) → CachingTells old m keys → IsGot → IfOk r (λ made. NotHit made.served (IsRight keys (enc_name request) (enc_given made)))
  right_got keys t got =
      map_ok (λ made. NotHit made.served (GaveToSeal m request random (enc_given made))) (λ made. NotHit made.served (IsRight keys (enc_name request) (enc_given made))) r
      (λ made. map_not_hit (GaveToSeal m request random (enc_given made)) (IsRight keys (enc_name request) (enc_given made)) made.served
      (gave_right m request random old (enc_given made) keys t)) got

  exact_got : CachingExact old m → IsGot → IfOk r (λ made. NotHit made.served (IsExact (unfailing m.meaning) (enc_name request) (enc_given made)))
  exact_got x got =
      map_ok (λ made. NotHit made.served (GaveToSeal m request random (enc_given made))) (λ made. NotHit made.served (IsExact (unfailing m.meaning) (enc_name request) (enc_given made))) r
      (λ made. map_not_hit (GaveToSeal m request random (enc_given made)) (IsExact (unfailing m.meaning) (enc_name request) (enc_given made)) made.served
      (gave_exact m request random old (enc_given made) x)) got

  seal_went : Went m n → IsAsked → IsGot → Went (caching_now old m) (caching_now new n)
  seal_went went asked got =
      went_caching old new m n (same_kind enc_handed (is_past m.meaning.wraps) (enc_wish request) now old new r asked) (same_limits enc_handed (is_past m.meaning.wraps) (enc_wish request) now old new r asked) went
      (λ keys t. holds_then enc_handed (enc_name request) old new r (rights enc_handed (is_past m.meaning.wraps) (enc_wish request) now old new r asked) (IsRight keys) t.right (right_got keys t got))
      (λ x. holds_then enc_handed (enc_name request) old new r (rights enc_handed (is_past m.meaning.wraps) (enc_wish request) now old new r asked) (IsExact (unfailing m.meaning)) x.kept (exact_got x got))

  seal_bears : IsSound old → IsAsked → BearsOn (caching_now old m) (caching_now new n) Seal now request.declared enc_served r
  seal_bears sound asked =
      bears_then enc_handed (is_past m.meaning.wraps) (enc_wish request) now Seal old new r sound (λ s kept. sized_seal s.limits (enc_wish request) s.next refl kept) asked

  seal_answers : (s : CacheState) → IsAsked → StoreStandsFor m.meaning.wraps old s → AnswersAs enc_handed (store_limits old) s (enc_wish request) now r
  seal_answers s asked stands = answers enc_handed (is_past m.meaning.wraps) (enc_wish request) now m.meaning.wraps old new s r (λ c e. not_past m.meaning.wraps c s e) asked stands

  seal_stands : (s : CacheState) → Went m n → IsAsked → StoreStandsFor m.meaning.wraps old s → StandsAfter enc_handed (store_limits old) n.meaning.wraps new s (enc_wish request) now r
  seal_stands s went asked stands =
      stands_then enc_handed (is_past m.meaning.wraps) (enc_wish request) now m.meaning.wraps n.meaning.wraps old new s r went.goes.wraps (λ c e. not_past m.meaning.wraps c s e) asked stands

module _ (old new : Option Store) (m n : ManagerNow) (request : EncRequestValue) (now : ℕ) (random : List ℕ) where
  seal_gives : (r : Result EncMaterialsValue ManagerError) → (m.meaning.plain ≡ true → m.meaning.fresh ≡ true) → IfOk r (λ made. FitsSeal m.meaning.wraps (enc_name request) (enc_given made))
      → AskedWith enc_handed (is_past m.meaning.wraps) old new (enc_wish request) now r → IfOk r (λ made. NotHit made.served (GaveToSeal m request random (enc_given made)))
      → IfOk r (GivesMaterials (caching_now old m) request random)
  seal_gives (Err e) fresh fits asked got = tt
  seal_gives (Ok made) fresh fits asked got =
      gives_materials m request random old made fresh fits got
      (none_direct ManagerError enc_handed (is_past m.meaning.wraps) (enc_wish request) now old new made asked)
      (λ keys t. (rights enc_handed (is_past m.meaning.wraps) (enc_wish request) now old new (Ok made) asked (IsRight keys) t.right
      (map_not_hit (GaveToSeal m request random (enc_given made)) (IsRight keys (enc_name request) (enc_given made)) made.served
      (gave_right m request random old (enc_given made) keys t) got)).0)
      (λ x. (rights enc_handed (is_past m.meaning.wraps) (enc_wish request) now old new (Ok made) asked (IsExact (unfailing m.meaning)) x.kept
      (map_not_hit (GaveToSeal m request random (enc_given made)) (IsExact (unfailing m.meaning) (enc_name request) (enc_given made)) made.served
      (gave_exact m request random old (enc_given made) x) got)).0)

  seal_cause : (r : Result EncMaterialsValue ManagerError) → IfErr r (GivesNone m n request)
      → IfErr r (GivesNone (caching_now old m) (caching_now new n) request)
  seal_cause (Ok made) none = tt
  seal_cause (Err e) none = gives_none m n request old new e none

-- what is so where an entry of the cache answers, is so where one of the state does
pub seal_answered : (P : Type 0) (old : Option Store) (m : ManagerNow) (request : EncRequestValue) (now : ℕ) (s : CacheState)
    → WhereKept (is_past m.meaning.wraps) old (enc_wish request) now P → StoreStandsFor m.meaning.wraps old s → WhereAnswered (store_limits old) s (enc_wish request) now P
seal_answered P old m request now s kept stands = where_answered (is_past m.meaning.wraps) (enc_wish request) now P m.meaning.wraps old s (λ c e. not_past m.meaning.wraps c s e) kept stands

-- All that is promised of the answer.
pub record SealPromises (old new : Option Store) (m n : ManagerNow) (request : EncRequestValue) (now : ℕ)
    (random : List ℕ) (r : Result EncMaterialsValue ManagerError) : Type 0 where
  pub went : Went (caching_now old m) (caching_now new n)
  pub gives : IfOk r (GivesMaterials (caching_now old m) request random)
  pub cause : IfErr r (GivesNone (caching_now old m) (caching_now new n) request)
  pub bears : BearsOn (caching_now old m) (caching_now new n) Seal now request.declared enc_served r
  pub answers : (s : CacheState) → StoreStandsFor m.meaning.wraps old s → AnswersAs enc_handed (store_limits old) s (enc_wish request) now r
  pub stands : (s : CacheState) → StoreStandsFor m.meaning.wraps old s → StandsAfter enc_handed (store_limits old) n.meaning.wraps new s (enc_wish request) now r
  pub limits : store_limits new ≡ store_limits old

pub seal_promises : (old new : Option Store) (m n : ManagerNow) (request : EncRequestValue) (now : ℕ) (random : List ℕ)
    (r : Result EncMaterialsValue ManagerError) → SealsOver m n request now random r → AskedWith enc_handed (is_past m.meaning.wraps) old new (enc_wish request) now r
    → (m.meaning.plain ≡ true → m.meaning.fresh ≡ true) → IsSound old → SealPromises old new m n request now random r
seal_promises old new m n request now random r seals asked fresh sound = record {
  went = seal_went old new m n request now random r seals.went asked seals.got;
  gives = seal_gives old new m n request now random r fresh seals.fits asked seals.got;
  cause = seal_cause old new m n request now random r seals.cause;
  bears = seal_bears old new m n request now random r sound asked;
  answers = λ s stands. seal_answers old new m n request now random r s asked stands;
  stands = λ s stands. seal_stands old new m n request now random r s seals.went asked stands;
  limits = same_limits enc_handed (is_past m.meaning.wraps) (enc_wish request) now old new r asked;
}
