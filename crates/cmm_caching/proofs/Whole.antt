-- With a cache or without: what an answer is, what is true of all entries then, and what the manager bears.
use Rattle.std.proofs.Common.{◌≡◌, ℕ, Bool, true, false, cond, List, [], Option, Some, None, is_none, option_map, Result, Ok, Err, IfOk, IfSome, MatchResult, refl, ap, subst, arith, ◌∙◌}
use Rattle.keyring_trait.specs.declared.journal.JournalLine.{JournalLine}
use Rattle.keyring_trait.specs.declared.journal.Kind.{Kind}
use Rattle.keyring_trait.specs.declared.served.Served.{Served}
use Rattle.keyring_trait.specs.declared.served.Served.TheVariants.{Direct}
use Rattle.keyring_trait.specs.Manager.{ManagerNow, Went}
use Rattle.keyring_trait.specs.Wrapping.{WrapKeyValue}
use Rattle.cmm_caching.specs.Limits.{LimitsValue}
use Rattle.cmm_caching.specs.Names.{NameValue}
use Rattle.cmm_caching.specs.Ask.{GivenValue, HandedValue, CacheEntry, CacheState, Wish, is_direct, entry_serving}
use Rattle.cmm_caching.specs.Store.{Store, StoreStandsFor, kept_for, tally, tallied}
use Rattle.cmm_caching.specs.Asked.{AskedWith, AnswersAs, StandsAfter, IsSound, NotHit, WhereAnswered, WhereKept, store_limits}
use Rattle.cmm_caching.specs.Holding.{HoldsOfEachEntry, IsRight, IsExact, unfailing}
use Rattle.cmm_caching.specs.Journal.{BearsWith, KeepsWithin}
use Rattle.cmm_caching.specs.CachingCmm.{CachingTells, CachingExact, caching_now}
use Rattle.cmm_caching.proofs.Bearing.{IsSized, Carries, bears_on, bears_direct_on, bears_none}
use Rattle.cmm_caching.proofs.Meanings.{RightsOn, goes_caching, tells_on, tells_back, exact_on}
use Rattle.cmm_caching.proofs.Tallies.{answering, serving_tallied, standing}
use Rattle.cmm_caching.proofs.Ways.{right_on, limits_kept}

-- without a cache everything is served directly
pub none_direct : {M : Type 0} (E : Type 0) (view : M → HandedValue) (past : Store → Bool) (w : Wish) (now : ℕ) (old new : Option Store) (m : M)
    → AskedWith {M = M} {E = E} view past old new w now (Ok m) → is_none old ≡ true → (view m).served ≡ Direct
none_direct E view past w now None None m asked none = asked
none_direct E view past w now None (Some c) m asked none = absurd asked
none_direct E view past w now (Some s) new m asked none = absurd cc

module _ (past : Store → Bool) (w : Wish) (now : ℕ) where
  -- what is so where an entry of the cache answers, is so where one of the state does
  pub where_answered : (P : Type 0) (width : ℕ) (old : Option Store) (s : CacheState) → ((c : Store) → c ≡ tallied c.limits width s → past c ≡ false)
      → WhereKept past old w now P → StoreStandsFor width old s → WhereAnswered (store_limits old) s w now P
  where_answered P width None s within kept stands = tt
  where_answered P width (Some c) s within kept stands = by_direct (is_direct c.limits w s.next) refl
    where
      by_serving : (o : Option CacheEntry) → entry_serving c.limits s w now ≡ o → is_direct c.limits w s.next ≡ false → IfSome o (λ _. P)
      by_serving None e direct = tt
      by_serving (Some x) e direct =
          kept (within c stands) (ap (λ (t : Store). is_direct c.limits w t.next) stands ∙ direct) (tally x)
          (ap (λ (t : Store). kept_for t w now) stands ∙ serving_tallied c.limits width s w now ∙ ap (option_map tally) e)

      by_direct : (b : Bool) → is_direct c.limits w s.next ≡ b → IfSome (cond b None (entry_serving c.limits s w now)) (λ _. P)
      by_direct true e = tt
      by_direct false e = by_serving (entry_serving c.limits s w now) refl e

module _ {M E : Type 0} (view : M → HandedValue) (past : Store → Bool) (w : Wish) (now : ℕ) where
  pub same_kind : (old new : Option Store) (r : Result M E) → AskedWith view past old new w now r → is_none new ≡ is_none old
  same_kind None None r asked = refl
  same_kind None (Some c) r asked = absurd asked
  same_kind (Some s) None r asked = absurd asked
  same_kind (Some s) (Some c) r asked = refl

  pub same_limits : (old new : Option Store) (r : Result M E) → AskedWith view past old new w now r → store_limits new ≡ store_limits old
  same_limits None None r asked = refl
  same_limits None (Some c) r asked = absurd asked
  same_limits (Some s) None r asked = absurd asked
  same_limits (Some s) (Some c) r asked = limits_kept view (past s) s c w now r asked

  rights_without : (P : NameValue → GivenValue → Type 0) (r : Result M E) → IfOk r (λ m. (view m).served ≡ Direct) → IfOk r (λ m. NotHit (view m).served (P w.name (view m).given))
      → MatchResult r (λ m. P w.name (view m).given × HoldsOfEachEntry P None) (λ _. HoldsOfEachEntry P None)
  rights_without P (Ok m) direct got = (subst (λ (served : Served). NotHit served (P w.name (view m).given)) direct got, tt)
  rights_without P (Err e) direct got = tt

  pub rights : (old new : Option Store) (r : Result M E) → AskedWith view past old new w now r → RightsOn view w.name old new r
  rights None None r asked = λ P holds got. rights_without P r asked got
  rights None (Some c) r asked = absurd asked
  rights (Some s) None r asked = absurd asked
  rights (Some s) (Some c) r asked = λ P holds got. right_on view (past s) s c w now P r asked holds got

  -- the law of managers
  pub answers : (width : ℕ) (old new : Option Store) (s : CacheState) (r : Result M E) → ((c : Store) → c ≡ tallied c.limits width s → past c ≡ false)
      → AskedWith view past old new w now r → StoreStandsFor width old s → AnswersAs view (store_limits old) s w now r
  answers width None None s (Ok m) within asked stands = λ i. record { given = (view m).given; served = asked i }
  answers width None None s (Err e) within asked stands = tt
  answers width None (Some c) s r within asked stands = absurd asked
  answers width (Some b) None s r within asked stands = absurd asked
  answers width (Some b) (Some c) s r within asked stands = answering view (past b) width b c s w now r stands (within b stands) asked

  pub stands_then : (width later : ℕ) (old new : Option Store) (s : CacheState) (r : Result M E) → later ≡ width → ((c : Store) → c ≡ tallied c.limits width s → past c ≡ false)
      → AskedWith view past old new w now r → StoreStandsFor width old s → StandsAfter view (store_limits old) later new s w now r
  stands_then width later None None s (Ok m) same within asked stands = stands
  stands_then width later None None s (Err e) same within asked stands = stands
  stands_then width later None (Some c) s r same within asked stands = absurd asked
  stands_then width later (Some b) None s r same within asked stands = absurd asked
  stands_then width later (Some b) (Some c) s r same within asked stands = standing view (past b) width b c s w now later r same stands (within b stands) asked

  -- the law of the cache's limits
  pub bears_then : (kind : Kind) (old new : Option Store) (r : Result M E) → IsSound old
      → ((s : Store) → is_direct s.limits w s.next ≡ false → IsSized s.limits kind w.declared)
      → AskedWith view past old new w now r → Carries (BearsWith old) (BearsWith new) kind now w.declared (λ m. (view m).served) r
  bears_then kind None None r sound sized asked = bears_direct_on (λ m. (view m).served) kind now w.declared r asked
  bears_then kind None (Some c) r sound sized asked = absurd asked
  bears_then kind (Some s) None r sound sized asked = absurd asked
  bears_then kind (Some s) (Some c) r sound sized asked = bears_on view kind (past s) s c w now r sound (sized s) asked

-- every manager with a cache bears no lines
pub bears_nothing : (o : Option Store) → BearsWith o []
bears_nothing None = λ k d within. absurd (omega (arith, within))
bears_nothing (Some s) = bears_none s

-- what it bears is within the limits
pub bears_within : (o : Option Store) (lines : List JournalLine) → BearsWith o lines → KeepsWithin (store_limits o) lines
bears_within None lines direct = direct
bears_within (Some s) lines bears = bears.within

-- limits that stay aren't widened
pub within_kept : (old new : Option LimitsValue) (lines : List JournalLine) → new ≡ old → KeepsWithin new lines → KeepsWithin old lines
within_kept old new lines same within = subst (λ (l : Option LimitsValue). KeepsWithin l lines) same within

-- ---- what the manager keeps

-- what the inner manager keeps, where it has a cache after the call as before, of the same limits
pub went_caching : (old new : Option Store) (m n : ManagerNow) → is_none new ≡ is_none old → store_limits new ≡ store_limits old → Went m n
    → ((keys : List WrapKeyValue) → CachingTells old m keys → HoldsOfEachEntry (IsRight keys) new)
    → (CachingExact old m → HoldsOfEachEntry (IsExact (unfailing m.meaning)) new) → Went (caching_now old m) (caching_now new n)
went_caching old new m n same limits went right exact = record {
  goes = goes_caching old new m.meaning n.meaning same went.goes;
  tells = tells_on old new m n same went right;
  same = tells_back old new m n went;
  exact = exact_on old new m n went exact;
  limits = λ lines within. within_kept (store_limits old) (store_limits new) lines limits within;
}

-- Without a call it goes on as it is.
pub unasked_caching : (cache : Option Store) (m : ManagerNow) → Went m m → Went (caching_now cache m) (caching_now cache m)
unasked_caching cache m went = went_caching cache cache m m refl refl went (λ keys t. t.right) (λ x. x.kept)
