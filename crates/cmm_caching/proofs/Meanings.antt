-- What a manager with a cache means before and after a call.
use Rattle.std.proofs.Common.{◌≡◌, ◌&&◌, true, false, true≢false, List, Option, None, Some, is_none, Result, Ok, Err, IfOk, MatchResult, refl, sym, subst, ◌∙◌}
use Rattle.keyring_trait.specs.declared.served.Served.{Served}
use Rattle.keyring_trait.specs.declared.served.Served.TheVariants.{Direct, New, Hit}
use Rattle.context_codec.specs.Context.{KeyValue}
use Rattle.keyring_trait.specs.Manager.{ManagerMeaning, ManagerNow, ManagerGoes, Went, IsNew, request_refusal, TellsOn}
use Rattle.keyring_trait.specs.Wrapping.{WrapKeyValue}
use Rattle.cmm_caching.specs.Names.{NameValue}
use Rattle.cmm_caching.specs.Ask.{GivenValue, HandedValue}
use Rattle.cmm_caching.specs.Store.{Store}
use Rattle.cmm_caching.specs.Asked.{NotHit}
use Rattle.cmm_caching.specs.Holding.{HoldsOfEachEntry, IsRight, IsExact, unfailing}
use Rattle.cmm_caching.specs.CachingCmm.{caching_meaning, CachingTells, CachingExact}

-- ---- what isn't served from an entry

pub map_not_hit : (P Q : Type 0) (served : Served) → (P → Q) → NotHit served P → NotHit served Q
map_not_hit P Q Direct f h = f h
map_not_hit P Q (New number) f h = f h
map_not_hit P Q (Hit number) f h = tt

pub not_served : (served : Served) (P : Type 0) → IsNew served → NotHit served P → P
not_served Direct P new h = h
not_served (New number) P new h = h
not_served (Hit number) P new h = absurd new

pub map_ok : {M E : Type 0} (P Q : M → Type 0) (r : Result M E) → ((m : M) → P m → Q m) → IfOk r P → IfOk r Q
map_ok P Q (Ok m) f h = f m h
map_ok P Q (Err e) f h = tt

-- ---- the meaning

-- it has a cache after the call where it had one before
pub goes_caching : (old new : Option Store) (m n : ManagerMeaning) → is_none new ≡ is_none old → ManagerGoes m n → ManagerGoes (caching_meaning old m) (caching_meaning new n)
goes_caching old new m n same goes = record {
  wraps = goes.wraps;
  refuses = goes.refuses;
  steady = goes.steady;
  fresh = goes.plain;
  plain = λ i. same i && goes.plain i;
  demands = goes.demands;
  later = goes.later;
  still = goes.still;
}

-- all that it means but the count of faults
pub unfailing_same : (m n : ManagerMeaning) → ManagerGoes m n → unfailing n ≡ unfailing m
unfailing_same m n goes = λ i. record {
  wraps = goes.wraps i;
  refuses = goes.refuses i;
  faults = 0;
  steady = goes.steady i;
  fresh = goes.fresh i;
  plain = goes.plain i;
  demands = goes.demands i;
}

pub refusal_same : (m : ManagerMeaning) (context : List KeyValue) → request_refusal (unfailing m) context ≡ request_refusal m context
unfolding request_refusal
refusal_same m context = refl

-- ---- what is told and what is exact

-- Where P holds of all entries, and of what the inner manager gave, it holds of what is answered, and of all entries then.
abbrev pub RightsOn : {M E : Type 0} → (M → HandedValue) → NameValue → (old new : Option Store) → Result M E → Type 1
RightsOn view name old new r =
    (P : NameValue → GivenValue → Type 0) → HoldsOfEachEntry P old → IfOk r (λ m. NotHit (view m).served (P name (view m).given))
    → MatchResult r (λ m. P name (view m).given × HoldsOfEachEntry P new) (λ _. HoldsOfEachEntry P new)

-- so it does of the entries
pub holds_then : {M E : Type 0} (view : M → HandedValue) (name : NameValue) (old new : Option Store) (r : Result M E) → RightsOn view name old new r
    → (P : NameValue → GivenValue → Type 0) → HoldsOfEachEntry P old → IfOk r (λ m. NotHit (view m).served (P name (view m).given)) → HoldsOfEachEntry P new
holds_then view name old new (Ok m) rights P holds got = (rights P holds got).1
holds_then view name old new (Err e) rights P holds got = rights P holds got

-- where it has a cache still, P holds of its entries
pub holds_cached : (P : NameValue → GivenValue → Type 0) (old new : Option Store) → is_none new ≡ is_none old → (is_none old ≡ false → HoldsOfEachEntry P new) → HoldsOfEachEntry P new
holds_cached P None None same cached = tt
holds_cached P None (Some s) same cached = absurd (true≢false (sym same))
holds_cached P (Some o) new same cached = cached refl

pub tells_on : (old new : Option Store) (m n : ManagerNow) → is_none new ≡ is_none old → Went m n → ((keys : List WrapKeyValue) → CachingTells old m keys → HoldsOfEachEntry (IsRight keys) new)
    → TellsOn (CachingTells old m) (CachingTells new n)
tells_on old new m n same went right = λ keys t. record {
  told = went.tells keys t.told;
  steady = λ cached. went.goes.steady ∙ t.steady (sym same ∙ cached);
  right = right keys t;
}

-- a plain one tells nothing else then
pub tells_back : (old new : Option Store) (m n : ManagerNow) → Went m n → (caching_meaning old m.meaning).plain ≡ true → TellsOn (CachingTells new n) (CachingTells old m)
tells_back None new m n went plain = λ keys t. record { told = went.same plain keys t.told; steady = λ cached. absurd (true≢false cached); right = tt }
tells_back (Some store) new m n went plain = absurd cc

pub exact_on : (old new : Option Store) (m n : ManagerNow) → Went m n → (CachingExact old m → HoldsOfEachEntry (IsExact (unfailing m.meaning)) new) → CachingExact old m → CachingExact new n
exact_on old new m n went kept x = record {
  exact = went.exact x.exact;
  kept = subst (λ (u : ManagerMeaning). HoldsOfEachEntry (IsExact u) new) (sym (unfailing_same m.meaning n.meaning went.goes)) (kept x);
}
