-- What stood at the front where a reader of the table read a value.
use Rattle.std.proofs.Common.{◌≡◌, ℕ, zero, suc, ◌+◌, ◌≤◌, Bool, true, false, not, eqb, ◌&&◌, ◌||◌, cond, List, [], ◌∷◌, ◌++◌, length, Option, Some, None, refl, sym, ap, subst, append_assoc, arith}
use Rattle.std.specs.Prelude.{◌==◌, nat_lt, option_map}
use Rattle.std.specs.Int.{w8, w16}
use Rattle.std.specs.List.{flat_map, AllByRecursion}
use Rattle.std.proofs.lemmas.Bool.{eqb-true, eq-eqb, ltb-false}
use Rattle.std.proofs.lemmas.List.Concat.{flat_map-cons}
use Rattle.esdk_fields.specs.declared.faults.Fault.TheVariants.{BadVersion, UnsupportedSuite, BadContext, HeaderTooLong, BadType}
use Rattle.esdk_fields.specs.declared.faults.Fault.TheVariants as faults
use Rattle.esdk_fields.specs.Bytes.{AreBytes}
use Rattle.esdk_fields.specs.Place.{Place}
use Rattle.esdk_fields.specs.Numbers.{to_big_endian}
use Rattle.esdk_fields.specs.Reading.{Read, ◌>>=◌, ◌>>◌, done, bytes, number, refuse_if, judge, repeat}
use Rattle.esdk_fields.specs.Sized.{sized}
use Rattle.esdk_fields.proofs.Inverse.{read_same, then_is_read}
use Rattle.esdk_fields.proofs.Taken.{IsTaken, IsTaken-then, bytes_taken, number8_taken, number16_taken}
use Rattle.suite_table.specs.declared.suite.Suite.{Suite}
use Rattle.suite_table.specs.declared.suite.Suite.TheVariants.{Committing, Uncommitted}
use Rattle.suite_table.specs.Suites.{suite_id, format_version, id_length}
use Rattle.context_codec.specs.Split.{context_fault}
use Rattle.edk_codec.specs.Entry.{Entry, IsEntry, edk_text}
use Rattle.header_codec.specs.Header.{Opening, IsAllowed, latest_end, type_text, version_text, opening_text}
use Rattle.header_codec.specs.Table.{is_version, suite_of_version, is_forbidden, type_field, suite_field, identity, opening, context_field, entry_part, entry}
use Rattle.header_codec.proofs.Steps.{after_version, after_type, after_suite_id, after_suite, after_type_field, after_context_length, after_part_length, after_provider, after_info}
use Rattle.header_codec.proofs.Readings.{guard_read, judge_read, refuse_read}

pub not_false : (b : Bool) → not b ≡ false → b ≡ true
not_false true e = refl
not_false false e = absurd cc

pub nothing_taken : (p : Place) → AreBytes p.left → IsTaken p [] p
nothing_taken p fits = record { front = refl; end = omega arith; rest = fits }

-- ---- version, type, suite id and message id

version_by : (one two : Bool) (version : ℕ) → eqb version 1 ≡ one → eqb version 2 ≡ two → (one || two) ≡ true → version ≡ format_version (cond one Uncommitted Committing)
version_by true two version first second known = eqb-true version 1 first
version_by false true version first second known = eqb-true version 2 second
version_by false false version first second known = absurd cc

-- a version that is read is its suite's
pub version_is : (version : ℕ) → is_version version ≡ true → version ≡ format_version (suite_of_version version)
version_is version known = version_by (eqb version 1) (eqb version 2) version refl refl known

pub type_taken : (suite : Suite) (p : Place) (x : Unit {0}) (q : Place) → AreBytes p.left → type_field suite p ≡ Read x q → IsTaken p (type_text suite) q
unfolding type_field type_text
type_taken Committing p x q fits e = subst (λ (n : Place). IsTaken p [] n) (read_same tt x p q e).1 (nothing_taken p fits)
type_taken Uncommitted p x q fits e =
    let a = then_is_read (number w8 p) after_type x q e in
    let b = refuse_read (not (a.value == 0x80)) (BadType a.value) a.next x q a.second in
    let k = number8_taken p a.value a.next fits a.first in
    let is : a.value ≡ 0x80 = eqb-true a.value 0x80 (not_false (a.value == 0x80) b.0) in
    subst (λ (n : Place). IsTaken p (to_big_endian w8 0x80) n) b.1 (subst (λ (n : ℕ). IsTaken p (to_big_endian w8 n) a.next) is k.0)

both : (b : Bool) → b ≡ true → (b && true) ≡ false → ⊥
both true first second = cc
both false first second = cc

-- a suite whose own id isn't forbidden is allowed
pub not_forbidden : (uncommitted : Bool) (suite : Suite) (id : ℕ) → id ≡ suite_id suite → is_forbidden uncommitted suite id ≡ false → IsAllowed uncommitted suite
not_forbidden uncommitted Committing id is free = tt
not_forbidden true Uncommitted id is free = refl
not_forbidden false Uncommitted id is free = absurd (both (eqb id 0x0178) (eq-eqb id 0x0178 is) free)

pub suite_taken : (uncommitted : Bool) (suite : Suite) (p : Place) (x : Unit {0}) (q : Place) → AreBytes p.left → suite_field uncommitted suite p ≡ Read x q
    → IsTaken p (to_big_endian w16 (suite_id suite)) q × IsAllowed uncommitted suite
unfolding suite_field
suite_taken uncommitted suite p x q fits e =
    let a = then_is_read (number w16 p) (after_suite_id uncommitted suite) x q e in
    let b = guard_read (is_forbidden uncommitted suite a.value) (faults.Uncommitted a.value) (refuse_if (not (a.value == suite_id suite)) (UnsupportedSuite a.value)) a.next x q a.second in
    let c = refuse_read (not (a.value == suite_id suite)) (UnsupportedSuite a.value) a.next x q b.1 in
    let s = number16_taken p a.value a.next fits a.first in
    let is : a.value ≡ suite_id suite = eqb-true a.value (suite_id suite) (not_false (a.value == suite_id suite) c.0) in
    (subst (λ (n : Place). IsTaken p (to_big_endian w16 (suite_id suite)) n) c.1 (subst (λ (n : ℕ). IsTaken p (to_big_endian w16 n) a.next) is s.0), not_forbidden uncommitted suite a.value is b.0)

-- what follows the version was read
pub record IdentityTaken (uncommitted : Bool) (suite : Suite) (p : Place) (o : Opening) (q : Place) : Type 0 where
  pub suite_is : o.suite ≡ suite
  pub taken : IsTaken p (type_text suite ++ to_big_endian w16 (suite_id suite) ++ o.id) q
  pub allowed : IsAllowed uncommitted suite
  pub id_len : length o.id ≡ id_length suite

pub identity_taken : (uncommitted : Bool) (suite : Suite) (p : Place) (o : Opening) (q : Place) → AreBytes p.left → identity uncommitted suite p ≡ Read o q → IdentityTaken uncommitted suite p o q
unfolding identity
identity_taken uncommitted suite p o q fits e =
    let a = then_is_read (type_field suite p) (λ _. after_type_field uncommitted suite) o q e in
    let b = then_is_read (suite_field uncommitted suite a.next) (λ _. after_suite suite) o q a.second in
    let c = then_is_read (bytes (id_length suite) b.next) (λ id. done (record { suite = suite; id = id })) o q b.second in
    let made : Opening = record { suite = suite; id = c.value } in
    let same = read_same made o c.next q c.second in
    let t = type_taken suite p a.value a.next fits a.first in
    let s = suite_taken uncommitted suite a.next b.value b.next t.rest b.first in
    let i = bytes_taken (id_length suite) b.next c.value c.next s.0.rest c.first in
    let text : IsTaken p (type_text suite ++ to_big_endian w16 (suite_id suite) ++ c.value) c.next =
    IsTaken-then p (type_text suite ++ to_big_endian w16 (suite_id suite)) b.next c.value c.next (IsTaken-then p (type_text suite) a.next (to_big_endian w16 (suite_id suite)) b.next t s.0) i.0 in
    let found : IdentityTaken uncommitted suite p made c.next = record { suite_is = refl; taken = text; allowed = s.1; id_len = i.1 } in
    subst (λ (n : Place). IdentityTaken uncommitted suite p o n) same.1 (subst (λ (x : Opening). IdentityTaken uncommitted suite p x c.next) same.0 found)

regrouped : (v t s i : List ℕ) → v ++ (t ++ s ++ i) ≡ v ++ t ++ s ++ i
regrouped v t s i = simp append_assoc

-- the opening was read
pub record OpeningTaken (uncommitted : Bool) (p : Place) (o : Opening) (q : Place) : Type 0 where
  pub taken : IsTaken p (opening_text o) q
  pub allowed : IsAllowed uncommitted o.suite
  pub id_len : length o.id ≡ id_length o.suite

pub opening_taken : (uncommitted : Bool) (p : Place) (o : Opening) (q : Place) → AreBytes p.left → opening uncommitted p ≡ Read o q → OpeningTaken uncommitted p o q
unfolding opening opening_text version_text
opening_taken uncommitted p o q fits e =
    let a = then_is_read (number w8 p) (after_version uncommitted) o q e in
    let suite = suite_of_version a.value in
    let b = guard_read (not (is_version a.value)) (BadVersion a.value) (identity uncommitted suite) a.next o q a.second in
    let v = number8_taken p a.value a.next fits a.first in
    let k = identity_taken uncommitted suite a.next o q v.0.rest b.1 in
    let version : IsTaken p (to_big_endian w8 (format_version suite)) a.next =
    subst (λ (n : ℕ). IsTaken p (to_big_endian w8 n) a.next) (version_is a.value (not_false (is_version a.value) b.0)) v.0 in
    let all = IsTaken-then p (to_big_endian w8 (format_version suite)) a.next (type_text suite ++ to_big_endian w16 (suite_id suite) ++ o.id) q version k.taken in
    let text : IsTaken p (to_big_endian w8 (format_version suite) ++ type_text suite ++ to_big_endian w16 (suite_id suite) ++ o.id) q =
    subst (λ (t : List ℕ). IsTaken p t q) (regrouped (to_big_endian w8 (format_version suite)) (type_text suite) (to_big_endian w16 (suite_id suite)) o.id) all in
    record {
      taken = subst (λ (x : Suite). IsTaken p (to_big_endian w8 (format_version x) ++ type_text x ++ to_big_endian w16 (suite_id x) ++ o.id) q) (sym k.suite_is) text;
      allowed = subst (λ (x : Suite). IsAllowed uncommitted x) (sym k.suite_is) k.allowed;
      id_len = subst (λ (x : Suite). length o.id ≡ id_length x) (sym k.suite_is) k.id_len;
    }

pub option_map_none : {A B : Type 0} (f : A → B) (o : Option A) → option_map f o ≡ None → o ≡ None
option_map_none f (Some x) e = absurd cc
option_map_none f None e = refl

pub context_taken : (p : Place) (context : List ℕ) (q : Place) → AreBytes p.left → context_field p ≡ Read context q → IsTaken p (sized context) q × (length context ≤ 65535) × (context_fault context ≡ None)
unfolding context_field sized
context_taken p context q fits e =
    let a = then_is_read (number w16 p) after_context_length context q e in
    let b = then_is_read (bytes a.value a.next) (λ read. judge (option_map BadContext (context_fault read)) >> done read) context q a.second in
    let c = judge_read (option_map BadContext (context_fault b.value)) (done b.value) b.next context q b.second in
    let same = read_same b.value context b.next q c.1 in
    let n = number16_taken p a.value a.next fits a.first in
    let t = bytes_taken a.value a.next b.value b.next n.0.rest b.first in
    let text : IsTaken p (to_big_endian w16 (length b.value) ++ b.value) b.next = rw t.1 (IsTaken-then p (to_big_endian w16 a.value) a.next b.value b.next n.0 t.0) in
    let found : IsTaken p (to_big_endian w16 (length b.value) ++ b.value) b.next × (length b.value ≤ 65535) × (context_fault b.value ≡ None) =
    (text, omega (arith, n.1, t.1), option_map_none BadContext (context_fault b.value) c.0) in
    subst (λ (r : Place). IsTaken p (to_big_endian w16 (length context) ++ context) r × (length context ≤ 65535) × (context_fault context ≡ None)) same.1
    (subst (λ (x : List ℕ). IsTaken p (to_big_endian w16 (length x) ++ x) b.next × (length x ≤ 65535) × (context_fault x ≡ None)) same.0 found)

pub part_taken : (p : Place) (x : List ℕ) (q : Place) → AreBytes p.left → entry_part p ≡ Read x q → IsTaken p (sized x) q × (length x ≤ 65535) × (q.at ≤ latest_end)
unfolding entry_part sized
part_taken p x q fits e =
    let a = then_is_read (number w16 p) after_part_length x q e in
    let b = guard_read (nat_lt latest_end (a.next.at + a.value)) (HeaderTooLong (a.next.at + a.value)) (bytes a.value) a.next x q a.second in
    let n = number16_taken p a.value a.next fits a.first in
    let t = bytes_taken a.value a.next x q n.0.rest b.1 in
    let inside : a.next.at + a.value ≤ latest_end = ltb-false latest_end (a.next.at + a.value) b.0 in
    (rw t.1 (IsTaken-then p (to_big_endian w16 a.value) a.next x q n.0 t.0), omega (arith, n.1, t.1), omega (arith, t.0.end, t.1))

pub entry_taken : (p : Place) (e : Entry) (q : Place) → AreBytes p.left → entry p ≡ Read e q → IsTaken p (edk_text e) q × IsEntry e × (q.at ≤ latest_end)
unfolding entry edk_text
entry_taken p e q fits r =
    let a = then_is_read (entry_part p) after_provider e q r in
    let b = then_is_read (entry_part a.next) (after_info a.value) e q a.second in
    let c = then_is_read (entry_part b.next) (λ cipher. done (record { provider = a.value; info = b.value; cipher = cipher })) e q b.second in
    let first = part_taken p a.value a.next fits a.first in
    let second = part_taken a.next b.value b.next first.0.rest b.first in
    let third = part_taken b.next c.value c.next second.0.rest c.first in
    let made : Entry = record { provider = a.value; info = b.value; cipher = c.value } in
    let same = read_same made e c.next q c.second in
    let text : IsTaken p (sized a.value ++ sized b.value ++ sized c.value) c.next =
    IsTaken-then p (sized a.value ++ sized b.value) b.next (sized c.value) c.next (IsTaken-then p (sized a.value) a.next (sized b.value) b.next first.0 second.0) third.0 in
    let found : IsTaken p (edk_text made) c.next × IsEntry made × (c.next.at ≤ latest_end) = (text, record { provider = first.1; info = second.1; cipher = third.1 }, third.2) in
    subst (λ (n : Place). IsTaken p (edk_text e) n × IsEntry e × (n.at ≤ latest_end)) same.1
    (subst (λ (y : Entry). IsTaken p (edk_text y) c.next × IsEntry y × (c.next.at ≤ latest_end)) same.0 found)

-- entries were read, one after another
pub record EntriesTaken (p : Place) (es : List Entry) (q : Place) (count : ℕ) : Type 0 where
  pub taken : IsTaken p (flat_map edk_text es) q
  pub len : length es ≡ count
  pub entries : AllByRecursion IsEntry es
  pub within : p.at ≤ latest_end → q.at ≤ latest_end

pub entries_taken : (count : ℕ) (p : Place) (es : List Entry) (q : Place) → AreBytes p.left → repeat entry count p ≡ Read es q → EntriesTaken p es q count
unfolding repeat
entries_taken zero p es q fits e =
    let same = read_same [] es p q e in
    let none : EntriesTaken p [] p zero = record { taken = record { front = refl; end = omega arith; rest = fits }; len = refl; entries = tt; within = λ h. h } in
    subst (λ (n : Place). EntriesTaken p es n zero) same.1 (subst (λ (y : List Entry). EntriesTaken p y p zero) same.0 none)
entries_taken (suc count) p es q fits e =
    let a = then_is_read (entry p) (λ first. repeat entry count >>= λ others. done (first ∷ others)) es q e in
    let b = then_is_read (repeat entry count a.next) (λ others. done (a.value ∷ others)) es q a.second in
    let same = read_same (a.value ∷ b.value) es b.next q b.second in
    let first = entry_taken p a.value a.next fits a.first in
    let others = entries_taken count a.next b.value b.next first.0.rest b.first in
    let both : IsTaken p (flat_map edk_text (a.value ∷ b.value)) b.next = rw flat_map-cons (IsTaken-then p (edk_text a.value) a.next (flat_map edk_text b.value) b.next first.0 others.taken) in
    let found : EntriesTaken p (a.value ∷ b.value) b.next (suc count) = record { taken = both; len = ap suc others.len; entries = (first.1, others.entries); within = λ _. others.within first.2 } in
    subst (λ (n : Place). EntriesTaken p es n (suc count)) same.1 (subst (λ (y : List Entry). EntriesTaken p y b.next (suc count)) same.0 found)
