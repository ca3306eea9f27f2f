-- The cache as the code keeps it answers as the state that it stands for.
use Rattle.std.proofs.Common.{◌≡◌, ℕ, zero, suc, ◌+◌, ◌-◌, Bool, true, false, not, cond, List, [], ◌∷◌, map, take, length, sum, Option, Some, None, option_map, option_and_then, Result, Ok, Err, refl, sym, ap, ◌∙◌, arith, eq-eqb}
use Rattle.std.proofs.lemmas.List.Sums.{sum_by-cons}
use Rattle.std.specs.Map.{lookup, remove_entry}
use Rattle.keyring_trait.specs.declared.served.Served.TheVariants.{Direct, New, Hit}
use Rattle.std.specs.Option.{option_map_or}
use Rattle.cmm_caching.specs.declared.kept.Kept.{Kept}
use Rattle.cmm_caching.specs.Limits.{LimitsValue}
use Rattle.cmm_caching.specs.Names.{NameValue, name_eq}
use Rattle.cmm_caching.specs.Ask.{GivenValue, HandedValue, CacheEntry, CacheState, Wish, Step, ask, hit, made_new, passed_on, entry_serving, serves, is_direct, kept_if, moved, put_first, with_use}
use Rattle.cmm_caching.specs.Store.{Store, StoreStep, tally, tallied_entry, tallied, ask_kept, kept_for, still_serves, used_again, fresh_kept, hit_or_new, is_past}
use Rattle.cmm_caching.specs.Asked.{AskedOfStore, AnswersAs, StandsAfter, store_step}

-- ---- uses and their tallies

used_tally : (declared : Option ℕ) (e : CacheEntry) → used_again declared (tally e) ≡ tally (record e { uses = with_use declared e.uses })
used_tally None e =
    let count : length e.uses + 0 ≡ length e.uses = omega arith in
    let bytes : sum e.uses + 0 ≡ sum e.uses = omega arith in
    λ i. record { number = e.number; made = e.made; given = e.given; count = count i; bytes = bytes i }
used_tally (Some n) e =
    let count : length e.uses + 1 ≡ length (n ∷ e.uses) = omega arith in
    let bytes : sum e.uses + n ≡ sum (n ∷ e.uses) = omega (arith, sum_by-cons (λ x. x) n e.uses) in
    λ i. record { number = e.number; made = e.made; given = e.given; count = count i; bytes = bytes i }

fresh_tally : (number now : ℕ) (got : GivenValue) (declared : Option ℕ)
    → fresh_kept number now got declared ≡ tally (record { number = number; made = now; given = got; uses = with_use declared [] })
fresh_tally number now got None = refl
fresh_tally number now got (Some n) =
    let bytes : n ≡ sum (n ∷ []) = omega (arith, sum_by-cons (λ x. x) n []) in
    λ i. record { number = number; made = now; given = got; count = 1; bytes = bytes i }

-- ---- entries and their tallies

lookup_tallied : (name : NameValue) (es : List (NameValue × CacheEntry)) → lookup (name_eq name) (map tallied_entry es) ≡ option_map tally (lookup (name_eq name) es)
lookup_tallied name [] = refl
lookup_tallied name (e ∷ es) = by_test (name_eq name e.0) (lookup_tallied name es)
  where
    by_test : (b : Bool) → lookup (name_eq name) (map tallied_entry es) ≡ option_map tally (lookup (name_eq name) es)
        → cond b (Some (tally e.1)) (lookup (name_eq name) (map tallied_entry es)) ≡ option_map tally (cond b (Some e.1) (lookup (name_eq name) es))
    by_test true rest = refl
    by_test false rest = rest

removed_tallied : (name : NameValue) (es : List (NameValue × CacheEntry))
    → remove_entry (name_eq name) (map tallied_entry es) ≡ map tallied_entry (remove_entry (name_eq name) es)
removed_tallied name [] = refl
removed_tallied name (e ∷ es) = by_test (name_eq name e.0) (removed_tallied name es)
  where
    by_test : (b : Bool) → remove_entry (name_eq name) (map tallied_entry es) ≡ map tallied_entry (remove_entry (name_eq name) es)
        → cond b (map tallied_entry es) (tallied_entry e ∷ remove_entry (name_eq name) (map tallied_entry es)) ≡ map tallied_entry (cond b es (e ∷ remove_entry (name_eq name) es))
    by_test true rest = refl
    by_test false rest = ap (λ r. tallied_entry e ∷ r) rest

taken_tallied : (n : ℕ) (es : List (NameValue × CacheEntry)) → take n (map tallied_entry es) ≡ map tallied_entry (take n es)
taken_tallied zero es = refl
taken_tallied (suc n) [] = refl
taken_tallied (suc n) (e ∷ es) = ap (λ r. tallied_entry e ∷ r) (taken_tallied n es)

moved_tallied : (name : NameValue) (k : Kept) (e : CacheEntry) (es : List (NameValue × CacheEntry)) → k ≡ tally e
    → moved name k (map tallied_entry es) ≡ map tallied_entry (moved name e es)
moved_tallied name k e es is = λ i. (name, is i) ∷ removed_tallied name es i

put_tallied : (capacity : ℕ) (name : NameValue) (k : Kept) (e : CacheEntry) (es : List (NameValue × CacheEntry)) → k ≡ tally e
    → put_first capacity name k (map tallied_entry es) ≡ map tallied_entry (put_first capacity name e es)
put_tallied capacity name k e es is = rw (lookup_tallied name es) (by_found (lookup (name_eq name) es))
  where
    by_found : (o : Option CacheEntry) → option_map_or (λ _. moved name k (map tallied_entry es)) (option_map tally o) ((name, k) ∷ take (capacity - 1) (map tallied_entry es))
        ≡ map tallied_entry (option_map_or (λ _. moved name e es) o ((name, e) ∷ take (capacity - 1) es))
    by_found None = λ i. (name, is i) ∷ taken_tallied (capacity - 1) es i
    by_found (Some f) = moved_tallied name k e es is

-- ---- what is answered

pub serving_tallied : (l : LimitsValue) (width : ℕ) (s : CacheState) (w : Wish) (now : ℕ) → kept_for (tallied l width s) w now ≡ option_map tally (entry_serving l s w now)
serving_tallied l width s w now = rw (lookup_tallied w.name s.entries) (by_found (lookup (name_eq w.name) s.entries))
  where
    by_test : (b : Bool) (e : CacheEntry) → cond b (Some (tally e)) None ≡ option_map tally (cond b (Some e) None)
    by_test true e = refl
    by_test false e = refl

    by_found : (o : Option CacheEntry) → option_and_then (kept_if (still_serves l w now)) (option_map tally o)
        ≡ option_map tally (option_and_then (kept_if (λ e. serves l e.made (length e.uses) (sum e.uses) w.declared now)) o)
    by_found None = refl
    by_found (Some e) = by_test (serves l e.made (length e.uses) (sum e.uses) w.declared now) e

abbrev step_of : LimitsValue → ℕ → Step → StoreStep
step_of l width step = store_step step.handed (tallied l width step.after)

pub tally_step : (l : LimitsValue) (width : ℕ) (s : CacheState) (w : Wish) (now : ℕ) (got : GivenValue) → ask_kept false (tallied l width s) w now got ≡ step_of l width (ask l s w now got)
unfolding ask_kept ask
tally_step l width s w now got = by_direct (is_direct l w s.next)
  where
    by_serving : (o : Option CacheEntry) → hit_or_new (tallied l width s) w now got (option_map tally o) ≡ step_of l width (option_map_or (hit s w) o (made_new l s w now got))
    by_serving None = λ i. record {
      handed = record { given = got; served = New s.next };
      after = record {
        limits = l;
        width = width;
        entries = put_tallied l.capacity w.name (fresh_kept s.next now got w.declared) (record { number = s.next; made = now; given = got; uses = with_use w.declared [] })
            s.entries (fresh_tally s.next now got w.declared) i;
        next = s.next + 1;
      };
    }
    by_serving (Some e) = λ i. record {
      handed = record { given = e.given; served = Hit e.number };
      after = record {
        limits = l;
        width = width;
        entries = moved_tallied w.name (used_again w.declared (tally e)) (record e { uses = with_use w.declared e.uses }) s.entries (used_tally w.declared e) i;
        next = s.next;
      };
    }

    by_direct : (b : Bool) → cond b (store_step (record { given = got; served = Direct }) (tallied l width s)) (hit_or_new (tallied l width s) w now got (kept_for (tallied l width s) w now))
        ≡ step_of l width (cond b (passed_on s got) (option_map_or (hit s w) (entry_serving l s w now) (made_new l s w now got)))
    by_direct true = refl
    by_direct false = rw (serving_tallied l width s w now) (by_serving (entry_serving l s w now))

-- ---- the law of managers

pub not_past : (width : ℕ) (c : Store) (s : CacheState) → c ≡ tallied c.limits width s → is_past width c ≡ false
not_past width c s stands =
    let same : width ≡ c.width = sym (ap (λ (x : Store). x.width) stands) in
    ap not (eq-eqb width c.width same)

-- the answer and the cache after it, from a state that the cache stands for
whole : (past : Bool) (width : ℕ) (c new : Store) (s : CacheState) (w : Wish) (now : ℕ) (h : HandedValue) → c ≡ tallied c.limits width s → past ≡ false
    → store_step h new ≡ ask_kept past c w now h.given → store_step h new ≡ step_of c.limits width (ask c.limits s w now h.given)
whole past width c new s w now h stands within asked =
    asked ∙ (λ i. ask_kept (within i) (stands i) w now h.given) ∙ tally_step c.limits width s w now h.given

module _ {M E : Type 0} (view : M → HandedValue) (past : Bool) (width : ℕ) (c new : Store) (s : CacheState) (w : Wish) (now : ℕ) where
  -- the answer is the one of the state
  pub answering : (r : Result M E) → c ≡ tallied c.limits width s → past ≡ false → AskedOfStore view past c new w now r → AnswersAs view (Some c.limits) s w now r
  answering (Ok m) stands within asked = ap (λ (x : StoreStep). x.handed) (whole past width c new s w now (view m) stands within asked)
  answering (Err e) stands within asked = tt

  -- and the cache stands for the state after it
  pub standing : (later : ℕ) (r : Result M E) → later ≡ width → c ≡ tallied c.limits width s → past ≡ false → AskedOfStore view past c new w now r
      → StandsAfter view (Some c.limits) later (Some new) s w now r
  standing later (Ok m) same stands within asked =
      let after : new ≡ tallied c.limits width (ask c.limits s w now (view m).given).after = ap (λ (x : StoreStep). x.after) (whole past width c new s w now (view m) stands within asked) in
      let limits : new.limits ≡ c.limits = ap (λ (x : Store). x.limits) after in
      after ∙ (λ i. tallied (sym limits i) (sym same i) (ask c.limits s w now (view m).given).after)
  standing later (Err e) same stands within asked =
      let limits : new.limits ≡ c.limits = ap (λ (x : Store). x.limits) asked in
      asked ∙ stands ∙ (λ i. tallied (sym limits i) (sym same i) s)
