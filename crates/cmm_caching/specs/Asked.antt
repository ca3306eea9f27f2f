-- What a request to a manager with a cache comes to.
use Rattle.std.specs.Prelude.{◌≡◌, ℕ, Bool, false, ⊤, Option, Some, None, Result, MatchResult, IfOk}
use Rattle.std.specs.Prelude.{IfSome}
use Rattle.keyring_trait.specs.declared.served.Served.{Served}
use Rattle.keyring_trait.specs.declared.served.Served.TheVariants.{Direct, New, Hit}
use Rattle.cmm_caching.specs.declared.kept.Kept.{Kept}
use Rattle.cmm_caching.specs.Limits.{LimitsValue}
use Rattle.cmm_caching.specs.Ask.{GivenValue, HandedValue, CacheEntry, CacheState, Wish, Step}
use Rattle.cmm_caching.specs.Ask.{answering, ask, is_direct, passed_on}
use Rattle.cmm_caching.specs.Store.{Store, StoreStep, Sound, StoreStandsFor, ask_kept, kept_for}

abbrev pub store_step : HandedValue → Store → StoreStep
store_step handed after = record { handed = handed; after = after }

-- with these limits the cache's answer; without, what the inner manager gave
abbrev pub asked_with : Option LimitsValue → CacheState → Wish → ℕ → GivenValue → Step
asked_with None s w now got = passed_on s got
asked_with (Some l) s w now got = ask l s w now got

-- the entry that answers the request, where there is a cache and one does
abbrev pub answering_with : Option LimitsValue → CacheState → Wish → ℕ → Option CacheEntry
answering_with None s w now = None
answering_with (Some l) s w now = answering l s w now

-- P, where an entry of the state answers the request
abbrev pub WhereAnswered : Option LimitsValue → CacheState → Wish → ℕ → Type 0 → Type 0
WhereAnswered limits s w now P = IfSome (answering_with limits s w now) (λ _. P)

-- P, where an entry of the cache answers the request
abbrev pub WhereKept : (Store → Bool) → Option Store → Wish → ℕ → Type 0 → Type 0
WhereKept past None w now P = ⊤
WhereKept past (Some s) w now P = past s ≡ false → is_direct s.limits w s.next ≡ false → (k : Kept)
    → kept_for s w now ≡ Some k → P

abbrev pub store_limits : Option Store → Option LimitsValue
store_limits None = None
store_limits (Some c) = Some c.limits

module _ {M E : Type 0} (view : M → HandedValue) where
  -- The answer and the cache after it are what `ask_kept` says. After an error the cache is as it
  -- was.
  abbrev pub AskedOfStore : Bool → (old new : Store) → Wish → ℕ → Result M E → Type 0
  AskedOfStore past old new w now answer =
      MatchResult answer (λ m. store_step (view m) new ≡ ask_kept past old w now (view m).given)
      (λ _. new ≡ old)

  -- The answer is the one of a cache of this state.
  abbrev pub AnswersAs : Option LimitsValue → CacheState → Wish → ℕ → Result M E → Type 0
  AnswersAs limits s w now answer =
      MatchResult answer (λ m. view m ≡ (asked_with limits s w now (view m).given).handed) (λ _. ⊤)

  -- The cache stands for the state after that answer, and after an error for the same state.
  abbrev pub StandsAfter : Option LimitsValue → ℕ → Option Store → CacheState → Wish → ℕ
      → Result M E
      → Type 0
  StandsAfter limits width cache s w now answer =
      MatchResult answer
      (λ m. StoreStandsFor width cache (asked_with limits s w now (view m).given).after)
      (λ _. StoreStandsFor width cache s)

  -- The same with a cache or without. Without one everything is served directly.
  abbrev pub AskedWith : (Store → Bool) → (old new : Option Store) → Wish → ℕ → Result M E → Type 0
  AskedWith past None None w now answer = IfOk answer (λ m. (view m).served ≡ Direct)
  AskedWith past None (Some c) w now answer = ⊥
  AskedWith past (Some s) None w now answer = ⊥
  AskedWith past (Some s) (Some c) w now answer = AskedOfStore (past s) s c w now answer

-- what is true of every cache
abbrev pub IsSound : Option Store → Type 0
IsSound None = ⊤
IsSound (Some c) = Sound c

-- P, where materials aren't served from an entry
abbrev pub NotHit : Served → Type 0 → Type 0
NotHit Direct P = P
NotHit (New number) P = P
NotHit (Hit number) P = ⊤
