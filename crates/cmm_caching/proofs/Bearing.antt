-- What a cache bears: with an entry that served, with a new one, and after any answer.
use Rattle.std.proofs.Common.{◌≡◌, ◌≢◌, ℕ, ◌+◌, ◌-◌, ◌^◌, ◌<◌, ◌≤◌, Bool, true, false, cond, ◌&&◌, List, [], ◌∷◌, ◌++◌, take, Contains, Option, Some, None, Result, Ok, Err, IfOk, MatchResult, nat_lt, nat_le, refl, sym, subst, arith, eqb-true, leb-true, ltb-true, ltb-false}
use Rattle.std.proofs.lemmas.Bool.{or_parts}
use Rattle.std.proofs.lemmas.List.Elements.{All-push}
use Rattle.std.specs.Cmp.{first_so, second_so}
use Rattle.std.specs.List.{AllByRecursion}
use Rattle.std.specs.Map.{lookup, remove_entry}
use Rattle.std.specs.Option.{option_map_or}
use Rattle.keyring_trait.specs.declared.journal.JournalLine.{JournalLine}
use Rattle.keyring_trait.specs.declared.journal.Kind.{Kind}
use Rattle.keyring_trait.specs.declared.journal.Kind.TheVariants.{Seal, Unseal}
use Rattle.keyring_trait.specs.declared.served.Served.{Served}
use Rattle.keyring_trait.specs.declared.served.Served.TheVariants.{Direct, New, Hit}
use Rattle.cmm_caching.specs.declared.kept.Kept.{Kept}
use Rattle.cmm_caching.specs.Limits.{LimitsValue, AreLimits}
use Rattle.cmm_caching.specs.Names.{NameValue, name_eq, is_seal}
use Rattle.cmm_caching.specs.Ask.{GivenValue, HandedValue, Wish, may_exceed, is_direct, is_young, fits, moved}
use Rattle.cmm_caching.specs.Store.{Store, Sound, kept_for, after_hit, after_new, used_again, use_count, fresh_kept}
use Rattle.cmm_caching.specs.Asked.{AskedOfStore}
use Rattle.cmm_caching.specs.Journal.{names, is_sealing, seals, seal_bytes, Told, Bears}
use Rattle.keyring_trait.specs.Manager.{AllDirect}
use Rattle.cmm_caching.proofs.Entries.{all_weaker, all_from, all_take, all_removed, all_found}
use Rattle.cmm_caching.proofs.Keeping.{others, kept_parts}
use Rattle.cmm_caching.proofs.Recorded.{IsLimited, Front, none_named, each, bears_direct, bears_front}
use Rattle.cmm_caching.proofs.Ways.{ways}

-- ---- lengths that are declared

-- what is encrypted has a declared length, within the limit; what is decrypted has none
abbrev pub IsSized : LimitsValue → Kind → Option ℕ → Type 0
IsSized l Seal None = ⊥
IsSized l Seal (Some n) = n ≤ l.bytes
IsSized l Unseal None = Unit {0}
IsSized l Unseal (Some n) = ⊥

-- so a line counts no more than its use
line_counts : (l : LimitsValue) (kind : Kind) (declared : Option ℕ) (t : Bool) → IsSized l kind declared → cond (is_sealing kind && t) 1 0 ≤ use_count declared
line_counts l Seal None t sized = absurd sized
line_counts l Seal (Some n) true sized = omega arith
line_counts l Seal (Some n) false sized = omega arith
line_counts l Unseal None t sized = omega arith
line_counts l Unseal (Some n) t sized = absurd sized

size_fits : (l : LimitsValue) (kind : Kind) (n : ℕ) → IsSized l kind (Some n) → n ≤ l.bytes
size_fits l Seal n sized = sized
size_fits l Unseal n sized = absurd sized

pub sized_seal : (l : LimitsValue) (w : Wish) (next : ℕ) → is_seal w.name ≡ true → is_direct l w next ≡ false → IsSized l Seal w.declared
sized_seal l w next seal kept = by_length w.declared over
  where
    over : may_exceed l w.declared ≡ false
    over = let first : (is_seal w.name && may_exceed l w.declared) ≡ false = (or_parts (is_seal w.name && may_exceed l w.declared) (nat_lt (2 ^ 63) next) kept).0 in rw seal at first

    by_length : (o : Option ℕ) → may_exceed l o ≡ false → IsSized l Seal o
    by_length None e = absurd cc
    by_length (Some n) e = ltb-false l.bytes n e

-- ---- an entry that served

fits_so : (l : LimitsValue) (k : Kept) (declared : Option ℕ) → fits l k.count k.bytes declared ≡ true → IsLimited l declared (used_again declared k)
fits_so l k None e = tt
fits_so l k (Some n) e = (
  leb-true (k.count + 1) l.messages (first_so (nat_le (k.count + 1) l.messages) (nat_le (k.bytes + n) l.bytes) e),
  leb-true (k.bytes + n) l.bytes (second_so (nat_le (k.count + 1) l.messages) (nat_le (k.bytes + n) l.bytes) e),
)

hit_front : (l : LimitsValue) (kind : Kind) (session now : ℕ) (declared : Option ℕ) (k : Kept) (lines : List JournalLine) → Told l.age lines k
    → is_young l k.made now ≡ true → fits l k.count k.bytes declared ≡ true → IsSized l kind declared
    → Front l lines (record { session = session; kind = kind; served = Hit k.number; now = now; length = declared }) (used_again declared k)
hit_front l kind session now declared k lines told young room sized =
    let from : k.made ≤ now = leb-true k.made now (first_so (nat_le k.made now) (nat_lt (now - k.made) l.age) young) in
    let until : now - k.made < l.age = ltb-true (now - k.made) l.age (second_so (nat_le k.made now) (nat_lt (now - k.made) l.age) young) in
    record {
      only = λ n named. sym (eqb-true k.number n named);
      counted = λ n. line_counts l kind declared (names n (Hit k.number)) sized;
      count = omega (arith, told.count);
      bytes = omega (arith, told.bytes);
      limited = fits_so l k declared room;
      young = told.young;
      now = record { from = from; until = omega (arith, from, until); new = λ e. absurd cc };
    }

bears_hit : (kind : Kind) (session : ℕ) (s : Store) (w : Wish) (now : ℕ) (k : Kept) (lines : List JournalLine) → Sound s → IsSized s.limits kind w.declared
    → kept_for s w now ≡ Some k → Bears s lines
    → Bears (after_hit s w k) (lines ++ record { session = session; kind = kind; served = Hit k.number; now = now; length = w.declared } ∷ [])
bears_hit kind session s w now k lines sound sized found bears =
    let parts = kept_parts s w now k found in
    let young : is_young s.limits k.made now ≡ true = first_so (is_young s.limits k.made now) (fits s.limits k.count k.bytes w.declared) parts.1 in
    let room : fits s.limits k.count k.bytes w.declared ≡ true = second_so (is_young s.limits k.made now) (fits s.limits k.count k.bytes w.declared) parts.1 in
    bears_front s s.next lines (record { session = session; kind = kind; served = Hit k.number; now = now; length = w.declared }) w.name (used_again w.declared k)
    (remove_entry (name_eq w.name) s.entries) bears
    (hit_front s.limits kind session now w.declared k lines (all_found (λ p. Told s.limits.age lines p.1) w.name s.entries k bears.told parts.0) young room sized)
    (omega arith)
    (all_found (λ p. p.1.number < s.next) w.name s.entries k sound.below parts.0)
    (all_removed (λ p. Told s.limits.age lines p.1) w.name s.entries bears.told)
    (others w.name s.entries k sound.apart parts.0)

-- ---- a new entry

new_limited : (l : LimitsValue) (kind : Kind) (number now : ℕ) (got : GivenValue) (declared : Option ℕ) → AreLimits l → IsSized l kind declared
    → IsLimited l declared (fresh_kept number now got declared)
new_limited l kind number now got None limits sized = tt
new_limited l kind number now got (Some n) limits sized = (limits.used, size_fits l kind n sized)

new_front : (kind : Kind) (session : ℕ) (s : Store) (w : Wish) (now : ℕ) (got : GivenValue) (lines : List JournalLine) → Sound s → IsSized s.limits kind w.declared → Bears s lines
    → Front s.limits lines (record { session = session; kind = kind; served = New s.next; now = now; length = w.declared }) (fresh_kept s.next now got w.declared)
new_front kind session s w now got lines sound sized bears =
    let none : (seals s.next lines ≡ 0) × (seal_bytes s.next lines ≡ 0) = none_named s.next lines (each (λ line. names s.next line.served ≡ false) lines unlike) in
    record {
      only = λ n named. sym (eqb-true s.next n named);
      counted = λ n. line_counts s.limits kind w.declared (names n (New s.next)) sized;
      count = omega (arith, none.0);
      bytes = omega (arith, none.1);
      limited = new_limited s.limits kind s.next now got w.declared sound.limits sized;
      young = λ x c named. let less : s.next < s.next = bears.below s.next x c named in absurd (omega (arith, less));
      now = record { from = omega arith; until = omega (arith, sound.limits.lasting); new = λ e. refl };
    }
  where
    unlike : (line : JournalLine) → Contains lines line → names s.next line.served ≡ false
    unlike line c = by_test (names s.next line.served) refl
      where
        by_test : (t : Bool) → names s.next line.served ≡ t → t ≡ false
        by_test true named = let less : s.next < s.next = bears.below s.next line c named in absurd (omega (arith, less))
        by_test false other = refl

bears_new : (kind : Kind) (session : ℕ) (s : Store) (w : Wish) (now : ℕ) (got : GivenValue) (lines : List JournalLine) → Sound s → IsSized s.limits kind w.declared → Bears s lines
    → Bears (after_new s w now got) (lines ++ record { session = session; kind = kind; served = New s.next; now = now; length = w.declared } ∷ [])
bears_new kind session s w now got lines sound sized bears = by_found (lookup (name_eq w.name) s.entries)
  where
    line : JournalLine
    line = record { session = session; kind = kind; served = New s.next; now = now; length = w.declared }

    made : Kept
    made = fresh_kept s.next now got w.declared

    unlike : (p : NameValue × Kept) → p.1.number < s.next → p.1.number ≢ s.next
    unlike p less same = let clash : s.next < s.next = subst (λ (n : ℕ). n < s.next) same less in absurd (omega (arith, clash))

    first : (es : List (NameValue × Kept)) → AllByRecursion (λ p. Told s.limits.age lines p.1) es → AllByRecursion (λ p. p.1.number < s.next) es
        → Bears (record { limits = s.limits; width = s.width; entries = (w.name, made) ∷ es; next = s.next + 1 }) (lines ++ line ∷ [])
    first es told below =
        bears_front s (s.next + 1) lines line w.name made es bears (new_front kind session s w now got lines sound sized bears) (omega arith) (omega arith) told
        (all_weaker (λ p. p.1.number < s.next) (λ p. p.1.number ≢ s.next) unlike es below)

    by_found : (o : Option Kept) → Bears (record s { entries = option_map_or (λ _. moved w.name made s.entries) o ((w.name, made) ∷ take (s.limits.capacity - 1) s.entries); next = s.next + 1 }) (lines ++ line ∷ [])
    by_found None =
        first (take (s.limits.capacity - 1) s.entries) (all_take (λ p. Told s.limits.age lines p.1) (s.limits.capacity - 1) s.entries bears.told)
        (all_take (λ p. p.1.number < s.next) (s.limits.capacity - 1) s.entries sound.below)
    by_found (Some k) =
        first (remove_entry (name_eq w.name) s.entries) (all_removed (λ p. Told s.limits.age lines p.1) w.name s.entries bears.told)
        (all_removed (λ p. p.1.number < s.next) w.name s.entries sound.below)

-- ---- after any answer

-- where these lines were borne, they are borne with one line more after an answer, and as they are after an error
abbrev pub Carries : {M E : Type 0} → (List JournalLine → Type 0) → (List JournalLine → Type 0) → Kind → ℕ → Option ℕ → (M → Served) → Result M E → Type 0
Carries old new kind now size served result =
    MatchResult result
    (λ m. (lines : List JournalLine) (session : ℕ) → old lines → new (lines ++ record { session = session; kind = kind; served = served m; now = now; length = size } ∷ []))
    (λ _. (lines : List JournalLine) → old lines → new lines)

pub bears_on : {M E : Type 0} (view : M → HandedValue) (kind : Kind) (past : Bool) (s new : Store) (w : Wish) (now : ℕ) (r : Result M E) → Sound s
    → (is_direct s.limits w s.next ≡ false → IsSized s.limits kind w.declared)
    → AskedOfStore view past s new w now r → Carries (Bears s) (Bears new) kind now w.declared (λ m. (view m).served) r
bears_on view kind past s new w now (Ok m) sound sized asked = λ lines session.
    ways
    (λ h after. Bears s lines → Bears after (lines ++ record { session = session; kind = kind; served = h.served; now = now; length = w.declared } ∷ []))
    past s new w now (view m) asked
    (λ bears. bears_direct s lines (record { session = session; kind = kind; served = Direct; now = now; length = w.declared }) bears (λ n. refl))
    (λ k kept found bears. bears_hit kind session s w now k lines sound (sized kept) found bears)
    (λ kept bears. bears_new kind session s w now (view m).given lines sound (sized kept) bears)
bears_on view kind past s new w now (Err e) sound sized asked = λ lines bears. subst (λ (c : Store). Bears c lines) (sym asked) bears

-- without a cache everything is served directly
pub bears_direct_on : {M E : Type 0} (served : M → Served) (kind : Kind) (now : ℕ) (size : Option ℕ) (r : Result M E) → IfOk r (λ m. served m ≡ Direct)
    → Carries AllDirect AllDirect kind now size served r
bears_direct_on served kind now size (Ok m) direct = λ lines session all.
    All-push (λ line. line.served ≡ Direct) lines (record { session = session; kind = kind; served = served m; now = now; length = size }) all direct
bears_direct_on served kind now size (Err e) direct = λ lines all. all

-- no lines
pub bears_none : (s : Store) → Bears s []
bears_none s = record {
  within = record {
    close = λ n a b c d na nb. let clash = c.1 in absurd (omega (arith, clash));
    messages = λ n. omega arith;
    bytes = λ n. omega arith;
  };
  below = λ n x c named. let clash = c.1 in absurd (omega (arith, clash));
  told = all_from (λ p. Told s.limits.age [] p.1) (λ p. record {
    count = omega arith;
    bytes = omega arith;
    young = λ x c named. let clash = c.1 in absurd (omega (arith, clash));
  }) s.entries;
}
