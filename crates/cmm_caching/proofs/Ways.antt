-- The three ways to answer a request, and what is true of the cache whichever it is.
use Rattle.std.proofs.Common.{◌≡◌, ℕ, Bool, true, false, cond, ◌||◌, Option, Some, None, Result, Ok, Err, IfOk, MatchResult, refl, sym, ap, subst}
use Rattle.std.proofs.lemmas.Bool.{or_parts}
use Rattle.cmm_caching.specs.declared.kept.Kept.{Kept}
use Rattle.cmm_caching.specs.Names.{NameValue}
use Rattle.cmm_caching.specs.Ask.{GivenValue, HandedValue, Wish, is_direct}
use Rattle.cmm_caching.specs.Store.{Store, StoreStep, ask_kept, kept_for, after_hit, after_new, handed_directly, handed_again, handed_new, hit_or_new, used_again, fresh_kept}
use Rattle.cmm_caching.specs.Asked.{AskedOfStore, NotHit, store_limits, store_step}
use Rattle.cmm_caching.specs.Holding.{HoldsOfEachEntry}
use Rattle.cmm_caching.proofs.Entries.{all_found, all_moved, all_put}
use Rattle.cmm_caching.proofs.Keeping.{kept_parts}

-- what is true of each way is true of the answer
pub ways : (C : HandedValue → Store → Type 0) (past : Bool) (s new : Store) (w : Wish) (now : ℕ) (h : HandedValue) → store_step h new ≡ ask_kept past s w now h.given
    → C (handed_directly h.given) s
    → ((k : Kept) → is_direct s.limits w s.next ≡ false → kept_for s w now ≡ Some k → C (handed_again k) (after_hit s w k))
    → (is_direct s.limits w s.next ≡ false → C (handed_new s h.given) (after_new s w now h.given))
    → C h new
unfolding ask_kept
ways C past s new w now h asked direct again newly = subst of_step (sym asked) (by_direct (past || is_direct s.limits w s.next) refl)
  where
    of_step : StoreStep → Type 0
    of_step x = C x.handed x.after

    by_kept : (o : Option Kept) → kept_for s w now ≡ o → is_direct s.limits w s.next ≡ false → of_step (hit_or_new s w now h.given o)
    by_kept None e kept = newly kept
    by_kept (Some k) e kept = again k kept e

    by_direct : (b : Bool) → (past || is_direct s.limits w s.next) ≡ b
        → of_step (cond b (record { handed = handed_directly h.given; after = s }) (hit_or_new s w now h.given (kept_for s w now)))
    by_direct true e = direct
    by_direct false e = by_kept (kept_for s w now) refl (or_parts past (is_direct s.limits w s.next) e).1

module _ {M E : Type 0} (view : M → HandedValue) (past : Bool) (s new : Store) (w : Wish) (now : ℕ) where
  -- the limits stay
  pub limits_kept : (r : Result M E) → AskedOfStore view past s new w now r → store_limits (Some new) ≡ store_limits (Some s)
  limits_kept (Ok m) asked =
      ap Some (ways (λ _ after. after.limits ≡ s.limits) past s new w now (view m) asked refl (λ _ _ _. refl) (λ _. refl))
  limits_kept (Err e) asked = ap (λ (x : Store). Some x.limits) asked

  -- Where P holds of all entries, and of what the inner manager gave, it holds of what is answered, and of all entries then.
  pub right_on : (P : NameValue → GivenValue → Type 0) (r : Result M E) → AskedOfStore view past s new w now r → HoldsOfEachEntry P (Some s)
      → IfOk r (λ m. NotHit (view m).served (P w.name (view m).given))
      → MatchResult r (λ m. P w.name (view m).given × HoldsOfEachEntry P (Some new)) (λ _. HoldsOfEachEntry P (Some new))
  right_on P (Ok m) asked holds got =
      ways (λ h after. NotHit h.served (P w.name h.given) → P w.name h.given × HoldsOfEachEntry P (Some after)) past s new w now (view m) asked
      (λ p. (p, holds))
      (λ k _ found _.
      let p : P w.name k.given = all_found of_entry w.name s.entries k holds (kept_parts s w now k found).0 in
      (p, all_moved of_entry w.name (used_again w.declared k) s.entries p holds))
      (λ _ p. (p, all_put of_entry w.name s.limits.capacity (fresh_kept s.next now (view m).given w.declared) s.entries p holds))
      got
    where
      of_entry : NameValue × Kept → Type 0
      of_entry p = P p.0 p.1.given
  right_on P (Err e) asked holds got = subst (λ (x : Store). HoldsOfEachEntry P (Some x)) (sym asked) holds
