-- How each way to answer a request is the one of the cache.
use Rattle.std.proofs.Common.{◌≡◌, ℕ, ◌^◌, ◌≤◌, Bool, true, false, not, ◌||◌, ◌&&◌, Option, Some, None, option_map, Result, Ok, Err, IfOk, nat_lt, nat_eq, refl, sym, ap, subst, ltb-false, eqb-true, ◌∙◌}
use Rattle.std.proofs.lemmas.Bool.{or_parts}
use Rattle.keyring_trait.specs.declared.served.Served.TheVariants.{Direct, New, Hit}
use Rattle.cmm_caching.specs.declared.kept.Kept.{Kept}
use Rattle.cmm_caching.specs.Limits.{LimitsValue}
use Rattle.cmm_caching.specs.Names.{is_seal}
use Rattle.cmm_caching.specs.Ask.{GivenValue, HandedValue, Wish, may_exceed, is_direct}
use Rattle.cmm_caching.specs.Store.{Store, ask_kept, kept_for, after_hit, after_look, after_new, given_again, hit_or_new, is_past}
use Rattle.cmm_caching.specs.Asked.{AskedOfStore, store_step}

abbrev handed : GivenValue → ℕ → HandedValue
handed given number = record { given = given; served = Hit number }

-- past the cache, directly
pub directly : (past : Bool) (s : Store) (w : Wish) (now : ℕ) (h : HandedValue) → (past || is_direct s.limits w s.next) ≡ true → h.served ≡ Direct
    → store_step h s ≡ ask_kept past s w now h.given
unfolding ask_kept
directly past s w now h goes served = rw goes (λ i. record { handed = record { given = h.given; served = served i }; after = s })

-- from an entry
pub again : (past : Bool) (s new : Store) (w : Wish) (now : ℕ) (given : GivenValue) (number : ℕ) (h : HandedValue) → past ≡ false → is_direct s.limits w s.next ≡ false
    → Some (given, number) ≡ option_map given_again (kept_for s w now) → new ≡ after_look s w now → h ≡ record { given = given; served = Hit number }
    → store_step h new ≡ ask_kept past s w now h.given
unfolding ask_kept
again past s new w now given number h within kept found after is = rw within (rw kept (by_kept (kept_for s w now) refl found after))
  where
    by_kept : (o : Option Kept) → kept_for s w now ≡ o → Some (given, number) ≡ option_map given_again (kept_for s w now) → new ≡ after_look s w now
        → store_step h new ≡ hit_or_new s w now h.given (kept_for s w now)
    by_kept None e found' after' = let none : Some (given, number) ≡ option_map given_again None = subst (λ (o' : Option Kept). Some (given, number) ≡ option_map given_again o') e found' in absurd cc
    by_kept (Some k) e found' after' =
        let some : Some (given, number) ≡ Some (given_again k) = rw e at found' in
        let one : (given, number) ≡ given_again k = cc in
        let last : new ≡ after_hit s w k = rw e at after' in
        rw e (λ i. record { handed = (is ∙ ap (λ (p : GivenValue × ℕ). handed p.0 p.1) one) i; after = last i })

-- as a new entry
pub newly : (past : Bool) (s new : Store) (w : Wish) (now : ℕ) (given : GivenValue) (number : ℕ) (h : HandedValue) → past ≡ false → is_direct s.limits w s.next ≡ false
    → kept_for s w now ≡ None → number ≡ s.next → new ≡ after_new s w now given → h ≡ record { given = given; served = New number }
    → store_step h new ≡ ask_kept past s w now h.given
unfolding ask_kept
newly past s new w now given number h within kept missing next after is =
    rw within (rw kept (rw missing
    (λ i. record {
      handed = record { given = h.given; served = (ap (λ (x : HandedValue). x.served) is ∙ ap New next) i };
      after = (after ∙ ap (after_new s w now) (sym (ap (λ (x : HandedValue). x.given) is))) i;
    })))

-- ---- a look for an entry that finds none

pub missed : (s : Store) (w : Wish) (now : ℕ) → None ≡ option_map given_again (kept_for s w now) → kept_for s w now ≡ None
missed s w now e = by_kept (kept_for s w now) e
  where
    by_kept : (o : Option Kept) → None ≡ option_map given_again o → o ≡ None
    by_kept None e' = refl
    by_kept (Some k) e' = absurd cc

pub unlooked : (s new : Store) (w : Wish) (now : ℕ) → None ≡ option_map given_again (kept_for s w now) → new ≡ after_look s w now → new ≡ s
unlooked s new w now e after = let none : kept_for s w now ≡ None = missed s w now e in rw none at after

-- ---- what is known where the request doesn't go past the cache

-- there is a number left
pub has_number : (l : LimitsValue) (w : Wish) (next : ℕ) → is_direct l w next ≡ false → next ≤ 2 ^ 63
has_number l w next e = ltb-false (2 ^ 63) next (or_parts (is_seal w.name && may_exceed l w.declared) (nat_lt (2 ^ 63) next) e).1

-- the inner manager makes as many encrypted data keys as the cache was made for
pub same_width : (wraps : ℕ) (s : Store) → is_past wraps s ≡ false → wraps ≡ s.width
same_width wraps s e = by_test (nat_eq wraps s.width) refl e
  where
    by_test : (b : Bool) → nat_eq wraps s.width ≡ b → not b ≡ false → wraps ≡ s.width
    by_test true is e' = eqb-true wraps s.width is
    by_test false is e' = absurd cc

-- ---- past the cache

pub asked_directly : {M E : Type 0} (view : M → HandedValue) (past : Bool) (s : Store) (w : Wish) (now : ℕ) (r : Result M E) → (past || is_direct s.limits w s.next) ≡ true
    → IfOk r (λ m. (view m).served ≡ Direct) → AskedOfStore view past s s w now r
asked_directly view past s w now (Ok m) goes served = directly past s w now (view m) goes served
asked_directly view past s w now (Err e) goes served = refl
