-- What stays true of a cache: after an entry served, and after one was made.
use Rattle.std.proofs.Common.{◌≡◌, ◌≢◌, ℕ, zero, suc, ◌+◌, ◌-◌, ◌^◌, ◌<◌, ◌≤◌, Bool, true, false, cond, List, [], ◌∷◌, take, Option, Some, None, option_and_then, nat_le, refl, sym, subst, arith, leb-true, ◌∙◌}
use Rattle.lru.specs.LruCache.{LruCache, lru_cache}
use Rattle.std.specs.List.{AllByRecursion}
use Rattle.std.specs.Map.{lookup, remove_entry}
use Rattle.std.specs.Option.{option_map_or}
use Rattle.std.specs.Cmp.{first_so, second_so}
use Rattle.cmm_caching.specs.declared.kept.Kept.{Kept}
use Rattle.cmm_caching.specs.Limits.{LimitsValue, AreLimits}
use Rattle.cmm_caching.specs.Names.{NameValue, name_eq}
use Rattle.cmm_caching.specs.Ask.{GivenValue, Wish, empty, is_young, fits, kept_if, moved, put_first}
use Rattle.cmm_caching.specs.Store.{Store, Sound, HaveApartNames, FitsName, tallied, kept_for, after_hit, after_new, used_again, fresh_kept, still_serves, CountsHaveRoom}
use Rattle.cmm_caching.proofs.Entries.{all_weaker, all_take, all_removed, all_found, all_moved, all_put}

-- ---- numbers

apart_taken : (n : ℕ) (es : List (NameValue × Kept)) → HaveApartNames es → HaveApartNames (take n es)
apart_taken zero es h = tt
apart_taken (suc n) [] h = tt
apart_taken (suc n) (e ∷ es) h = (all_take (λ p. p.1.number ≢ e.1.number) n es h.0, apart_taken n es h.1)

apart_removed : (name : NameValue) (es : List (NameValue × Kept)) → HaveApartNames es → HaveApartNames (remove_entry (name_eq name) es)
apart_removed name [] h = tt
apart_removed name (e ∷ es) h = by_test (name_eq name e.0) (apart_removed name es h.1)
  where
    by_test : (b : Bool) → HaveApartNames (remove_entry (name_eq name) es) → HaveApartNames (cond b es (e ∷ remove_entry (name_eq name) es))
    by_test true rest = h.1
    by_test false rest = (all_removed (λ p. p.1.number ≢ e.1.number) name es h.0, rest)

-- the others have other numbers than the one that is found
pub others : (name : NameValue) (es : List (NameValue × Kept)) (k : Kept) → HaveApartNames es → lookup (name_eq name) es ≡ Some k
    → AllByRecursion (λ p. p.1.number ≢ k.number) (remove_entry (name_eq name) es)
others name [] k h e = tt
others name (f ∷ es) k h e = by_test (name_eq name f.0) e (others name es k h.1)
  where
    by_test : (b : Bool) → cond b (Some f.1) (lookup (name_eq name) es) ≡ Some k
        → (lookup (name_eq name) es ≡ Some k → AllByRecursion (λ p. p.1.number ≢ k.number) (remove_entry (name_eq name) es))
        → AllByRecursion (λ p. p.1.number ≢ k.number) (cond b es (f ∷ remove_entry (name_eq name) es))
    by_test true e' rest = let value : f.1 ≡ k = cc in subst (λ (j : Kept). AllByRecursion (λ p. p.1.number ≢ j.number) es) value h.0
    by_test false e' rest =
        let apart : k.number ≢ f.1.number = all_found (λ p. p.1.number ≢ f.1.number) name es k h.0 e' in
        (λ same. apart (sym same), rest e')

-- ---- an entry that serves

-- it is the one of the name, and serves
pub kept_parts : (s : Store) (w : Wish) (now : ℕ) (k : Kept) → kept_for s w now ≡ Some k → (lookup (name_eq w.name) s.entries ≡ Some k) × (still_serves s.limits w now k ≡ true)
kept_parts s w now k e = by_found (lookup (name_eq w.name) s.entries) refl e
  where
    by_found : (o : Option Kept) → lookup (name_eq w.name) s.entries ≡ o → option_and_then (kept_if (still_serves s.limits w now)) o ≡ Some k
        → (lookup (name_eq w.name) s.entries ≡ Some k) × (still_serves s.limits w now k ≡ true)
    by_found None is e' = absurd cc
    by_found (Some j) is e' = by_test (still_serves s.limits w now j) refl e'
      where
        by_test : (b : Bool) → still_serves s.limits w now j ≡ b → cond b (Some j) None ≡ Some k → (lookup (name_eq w.name) s.entries ≡ Some k) × (still_serves s.limits w now k ≡ true)
        by_test true passes e'' =
            let same : j ≡ k = cc in
            subst (λ (i : Kept). (lookup (name_eq w.name) s.entries ≡ Some i) × (still_serves s.limits w now i ≡ true)) same (is, passes)
        by_test false fails e'' = absurd cc

-- its materials are what the name says
pub found_fits : (s : Store) (name : NameValue) (k : Kept) → Sound s → lookup (name_eq name) s.entries ≡ Some k → FitsName s.width name k.given
found_fits s name k sound found = all_found (λ p. FitsName s.width p.0 p.1.given) name s.entries k sound.fits found

pub hit_sound : (s : Store) (w : Wish) (k : Kept) → Sound s → lookup (name_eq w.name) s.entries ≡ Some k → Sound (after_hit s w k)
hit_sound s w k sound found = record {
  limits = sound.limits;
  next = sound.next;
  below = all_moved (λ p. p.1.number < s.next) w.name (used_again w.declared k) s.entries (all_found (λ p. p.1.number < s.next) w.name s.entries k sound.below found) sound.below;
  apart = (others w.name s.entries k sound.apart found, apart_removed w.name s.entries sound.apart);
  fits = all_moved (λ p. FitsName s.width p.0 p.1.given) w.name (used_again w.declared k) s.entries
      (all_found (λ p. FitsName s.width p.0 p.1.given) w.name s.entries k sound.fits found) sound.fits;
}

-- ---- a new entry

pub new_sound : (s : Store) (w : Wish) (now : ℕ) (got : GivenValue) → Sound s → s.next ≤ 2 ^ 63 → FitsName s.width w.name got → Sound (after_new s w now got)
new_sound s w now got sound room fits = record {
  limits = sound.limits;
  next = omega (arith, room);
  below = all_put (λ p. p.1.number < s.next + 1) w.name s.limits.capacity made s.entries (omega arith)
      (all_weaker (λ p. p.1.number < s.next) (λ p. p.1.number < s.next + 1) (λ p h. omega (arith, h)) s.entries sound.below);
  apart = put_apart (lookup (name_eq w.name) s.entries);
  fits = all_put (λ p. FitsName s.width p.0 p.1.given) w.name s.limits.capacity made s.entries fits sound.fits;
}
  where
    made : Kept
    made = fresh_kept s.next now got w.declared

    below_next : (p : NameValue × Kept) → p.1.number < s.next → p.1.number ≢ s.next
    below_next p less same = let l : s.next < s.next = subst (λ (n : ℕ). n < s.next) same less in omega (arith, l)

    unlike : (es : List (NameValue × Kept)) → AllByRecursion (λ p. p.1.number < s.next) es → AllByRecursion (λ p. p.1.number ≢ s.next) es
    unlike es h = all_weaker (λ p. p.1.number < s.next) (λ p. p.1.number ≢ s.next) below_next es h

    put_apart : (o : Option Kept) → HaveApartNames (option_map_or (λ _. moved w.name made s.entries) o ((w.name, made) ∷ take (s.limits.capacity - 1) s.entries))
    put_apart None = (
      unlike (take (s.limits.capacity - 1) s.entries) (all_take (λ p. p.1.number < s.next) (s.limits.capacity - 1) s.entries sound.below),
      apart_taken (s.limits.capacity - 1) s.entries sound.apart,
    )
    put_apart (Some k) =
        (unlike (remove_entry (name_eq w.name) s.entries) (all_removed (λ p. p.1.number < s.next) w.name s.entries sound.below), apart_removed w.name s.entries sound.apart)

-- the cache with no entry
pub empty_sound : (l : LimitsValue) (width : ℕ) → AreLimits l → Sound (tallied l width empty)
empty_sound l width limits = record { limits = limits; next = omega arith; below = tt; apart = tt; fits = tt }

-- ---- the bounds of the counts

-- an entry that serves has room for this use
pub has_room : (l : LimitsValue) (k : Kept) (w : Wish) (now : ℕ) → AreLimits l → still_serves l w now k ≡ true → CountsHaveRoom w.declared k
has_room l k w now limits passes = by_declared w.declared (second_so (is_young l k.made now) (fits l k.count k.bytes w.declared) passes)
  where
    by_declared : (d : Option ℕ) → fits l k.count k.bytes d ≡ true → CountsHaveRoom d k
    by_declared None e = tt
    by_declared (Some n) e =
        let few : k.count + 1 ≤ l.messages = leb-true (k.count + 1) l.messages (first_so (nat_le (k.count + 1) l.messages) (nat_le (k.bytes + n) l.bytes) e) in
        let short : k.bytes + n ≤ l.bytes = leb-true (k.bytes + n) l.bytes (second_so (nat_le (k.count + 1) l.messages) (nat_le (k.bytes + n) l.bytes) e) in
        (omega (arith, few, limits.seldom), omega (arith, short, limits.short))

-- ---- the invariant of the cache's fields

abbrev IsValid : LimitsValue → ℕ → LruCache NameValue Kept → ℕ → Type 0
IsValid l width c next = (c.cap ≡ l.capacity) × Sound (record { limits = l; width = width; entries = c.entries; next = next })

-- after an entry served
pub hit_valid : (l : LimitsValue) (width : ℕ) (old new : LruCache NameValue Kept) (next : ℕ) (w : Wish) (k : Kept) → IsValid l width old next
    → lookup (name_eq w.name) old.entries ≡ Some k → new ≡ lru_cache (moved w.name (used_again w.declared k) old.entries) old.cap → IsValid l width new next
hit_valid l width old new next w k valid found e =
    subst (λ (c : LruCache NameValue Kept). IsValid l width c next) (sym e)
    (valid.0, hit_sound (record { limits = l; width = width; entries = old.entries; next = next }) w k valid.1 found)

-- after one was made
pub new_valid : (l : LimitsValue) (width : ℕ) (old new : LruCache NameValue Kept) (next : ℕ) (w : Wish) (now : ℕ) (given : GivenValue) (k : Kept) → IsValid l width old next
    → next ≤ 2 ^ 63 → FitsName width w.name given → k ≡ fresh_kept next now given w.declared → new ≡ lru_cache (put_first old.cap w.name k old.entries) old.cap
    → IsValid l width new (next + 1)
new_valid l width old new next w now given k valid room fits made e =
    let is : new ≡ lru_cache (put_first l.capacity w.name (fresh_kept next now given w.declared) old.entries) old.cap =
    e ∙ (λ i. lru_cache (put_first (valid.0 i) w.name (made i) old.entries) old.cap) in
    subst (λ (c : LruCache NameValue Kept). IsValid l width c (next + 1)) (sym is)
    (valid.0, new_sound (record { limits = l; width = width; entries = old.entries; next = next }) w now given valid.1 room fits)
