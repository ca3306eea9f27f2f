-- Fields that have an offence are refused with it.
use Rattle.std.proofs.Common.{◌≡◌, ◌≢◌, ℕ, zero, suc, ◌+◌, ◌*◌, ◌^◌, ◌<◌, ◌≤◌, Bool, true, false, not, eqb, ◌&&◌, List, [], ◌∷◌, ◌++◌, length, Option, Some, refl, sym, ap, subst, ◌∙◌, append_assoc, arith}
use Rattle.std.specs.Prelude.{◌==◌, nat_lt, IsSomeAnd, option_map}
use Rattle.std.specs.Int.{w8, w16}
use Rattle.std.specs.List.{flat_map, AllByRecursion}
use Rattle.std.proofs.lemmas.Bool.{ne_eqb, lt-ltb, or_from}
use Rattle.std.proofs.lemmas.List.{length-append}
use Rattle.std.proofs.lemmas.List.Concat.{flat_map-cons}
use Rattle.esdk_fields.specs.declared.faults.ContextFault.{ContextFault}
use Rattle.esdk_fields.specs.declared.faults.Fault.{Fault}
use Rattle.esdk_fields.specs.declared.faults.Fault.TheVariants.{BadVersion, UnsupportedSuite, BadContext, NoDataKeys, TooManyDataKeys, HeaderTooLong, BadType}
use Rattle.esdk_fields.specs.declared.faults.Fault.TheVariants as faults
use Rattle.esdk_fields.specs.Numbers.{to_big_endian}
use Rattle.esdk_fields.specs.Reading.{Refused, FieldReader, ◌>>=◌, ◌>>◌, done, bytes, number, refuse_if, judge, repeat}
use Rattle.esdk_fields.specs.Sized.{sized}
use Rattle.esdk_fields.proofs.Again.{length-to_big_endian16}
use Rattle.suite_table.specs.declared.suite.Suite.{Suite}
use Rattle.suite_table.specs.declared.suite.Suite.TheVariants.{Committing, Uncommitted}
use Rattle.suite_table.specs.Suites.{suite_id, format_version}
use Rattle.context_codec.specs.Split.{context_fault}
use Rattle.edk_codec.specs.Entry.{Entry, IsEntry, edk_text}
use Rattle.header_codec.specs.declared.settings.Settings.{Settings}
use Rattle.header_codec.specs.Header.{Opening, latest_end, type_text, version_text, opening_text}
use Rattle.esdk_fields.specs.Limits.{is_over}
use Rattle.header_codec.specs.Table.{is_version, suite_of_version, is_forbidden, type_field, suite_field, identity, opening, context_field, entry_part, entry, data_keys, header}
use Rattle.header_codec.specs.Offence.{opened_text, OpeningIsRead}
use Rattle.header_codec.proofs.Steps.{after_version, after_type, after_suite_id, after_suite, after_type_field, after_context_length, after_part_length, after_provider, after_info, after_count, after_opening, after_context, after_keys}
use Rattle.header_codec.proofs.Readings.{place, Refuses, Refuses-bind, Refuses-first, Refuses-after, guard_passes, guard_refuses, judge_refuses, refuse_refuses}
use Rattle.esdk_fields.proofs.Limited.{limit_over}
use Rattle.header_codec.proofs.ReadBack.{Reads-bytes, Reads-number8, Reads-number16, Reads-type, Reads-opening, Reads-context, Reads-part, Reads-entry}

pub Refuses-guard : {A : Type 0} (b : Bool) (own : Fault) (k : FieldReader A) (at : ℕ) (text : List ℕ) (fault : Fault) → b ≡ false → Refuses k at text fault → Refuses (refuse_if b own >> k) at text fault
Refuses-guard b own k at text fault e refuses = record { again = λ rest. guard_passes b own k (place at (text ++ rest)) e ∙ refuses.again rest }

pub not_of_false : (b : Bool) → b ≡ false → not b ≡ true
not_of_false true e = absurd cc
not_of_false false e = refl

pub not_of_true : (b : Bool) → b ≡ true → not b ≡ false
not_of_true true e = refl
not_of_true false e = absurd cc

-- ---- version, suite and context

pub version_refused : (uncommitted : Bool) (at version : ℕ) → version < 2 ^ 8 → version ≢ 1 → version ≢ 2 → Refuses (opening uncommitted) at (to_big_endian w8 version) (BadVersion version)
unfolding opening
version_refused uncommitted at version lt not_one not_two =
    Refuses-after (number w8) (after_version uncommitted) at (to_big_endian w8 version) version (BadVersion version) (Reads-number8 at version lt)
    (λ rest. guard_refuses (not (is_version version)) (BadVersion version) (identity uncommitted (suite_of_version version)) (place (at + length (to_big_endian w8 version)) rest)
    (not_of_false (is_version version) (or_from (eqb version 1) (eqb version 2) (ne_eqb version 1 not_one) (ne_eqb version 2 not_two))))

-- a suite's version is read, and what follows it is refused
behind_version : (uncommitted : Bool) (suite : Suite) (at : ℕ) (text : List ℕ) (fault : Fault) → Refuses (identity uncommitted suite) (at + length (to_big_endian w8 (format_version suite))) text fault
    → Refuses (opening uncommitted) at (to_big_endian w8 (format_version suite) ++ text) fault
unfolding opening
behind_version uncommitted Committing at text fault refuses =
    let v = to_big_endian w8 2 in
    Refuses-bind (number w8) (after_version uncommitted) at v text 2 fault (Reads-number8 at 2 (omega arith))
    (Refuses-guard (not (is_version 2)) (BadVersion 2) (identity uncommitted Committing) (at + length v) text fault refl refuses)
behind_version uncommitted Uncommitted at text fault refuses =
    let v = to_big_endian w8 1 in
    Refuses-bind (number w8) (after_version uncommitted) at v text 1 fault (Reads-number8 at 1 (omega arith))
    (Refuses-guard (not (is_version 1)) (BadVersion 1) (identity uncommitted Uncommitted) (at + length v) text fault refl refuses)

pub type_refused : (uncommitted : Bool) (at kind : ℕ) → kind < 2 ^ 8 → kind ≢ 0x80 → Refuses (opening uncommitted) at (to_big_endian w8 (format_version Uncommitted) ++ to_big_endian w8 kind) (BadType kind)
unfolding identity type_field
type_refused uncommitted at kind lt other =
    let v = to_big_endian w8 1 in
    let k = to_big_endian w8 kind in
    behind_version uncommitted Uncommitted at k (BadType kind)
    (Refuses-first (number w8 >>= after_type) (λ _. after_type_field uncommitted Uncommitted) (at + length v) k (BadType kind)
    (Refuses-after (number w8) after_type (at + length v) k kind (BadType kind) (Reads-number8 (at + length v) kind lt)
    (λ rest. refuse_refuses (not (kind == 0x80)) (BadType kind) (place (at + length v + length k) rest) (not_of_false (kind == 0x80) (ne_eqb kind 0x80 other)))))

-- version and type are read, and the suite id is refused
behind_type : (uncommitted : Bool) (suite : Suite) (at : ℕ) (text : List ℕ) (fault : Fault) → ((q : ℕ) → Refuses (suite_field uncommitted suite) q text fault) → Refuses (opening uncommitted) at (version_text suite ++ text) fault
unfolding identity version_text
behind_type uncommitted suite at text fault refuses =
    let v = to_big_endian w8 (format_version suite) in
    let t = type_text suite in
    subst (λ (x : List ℕ). Refuses (opening uncommitted) at x fault) (sym (append_assoc v t text))
    (behind_version uncommitted suite at (t ++ text) fault
    (Refuses-bind (type_field suite) (λ _. after_type_field uncommitted suite) (at + length v) t text tt fault (Reads-type suite (at + length v))
    (Refuses-first (suite_field uncommitted suite) (λ _. after_suite suite) (at + length v + length t) text fault (refuses (at + length v + length t)))))

not_own : (uncommitted : Bool) (suite : Suite) (id : ℕ) → id ≢ suite_id suite → is_forbidden uncommitted suite id ≡ false
not_own uncommitted Committing id other = refl
not_own uncommitted Uncommitted id other = first (eqb id 0x0178) (not uncommitted) (ne_eqb id 0x0178 other)
  where
    first : (a b : Bool) → a ≡ false → (a && b) ≡ false
    first true b e = absurd cc
    first false b e = refl

pub suite_refused : (uncommitted : Bool) (suite : Suite) (at id : ℕ) → id < 2 ^ 16 → id ≢ suite_id suite → Refuses (opening uncommitted) at (version_text suite ++ to_big_endian w16 id) (UnsupportedSuite id)
unfolding suite_field
suite_refused uncommitted suite at id lt other =
    behind_type uncommitted suite at (to_big_endian w16 id) (UnsupportedSuite id)
    (λ q. Refuses-after (number w16) (after_suite_id uncommitted suite) q (to_big_endian w16 id) id (UnsupportedSuite id) (Reads-number16 q id lt)
    (λ rest.
    let p = place (q + length (to_big_endian w16 id)) rest in
    guard_passes (is_forbidden uncommitted suite id) (faults.Uncommitted id) (refuse_if (not (id == suite_id suite)) (UnsupportedSuite id)) p (not_own uncommitted suite id other)
    ∙ refuse_refuses (not (id == suite_id suite)) (UnsupportedSuite id) p (not_of_false (id == suite_id suite) (ne_eqb id (suite_id suite) other))))

pub forbidden_refused : (uncommitted : Bool) (at : ℕ) → uncommitted ≡ false → Refuses (opening uncommitted) at (version_text Uncommitted ++ to_big_endian w16 (suite_id Uncommitted)) (faults.Uncommitted (suite_id Uncommitted))
unfolding suite_field
forbidden_refused true at free = absurd cc
forbidden_refused false at free =
    behind_type false Uncommitted at (to_big_endian w16 0x0178) (faults.Uncommitted 0x0178)
    (λ q. Refuses-after (number w16) (after_suite_id false Uncommitted) q (to_big_endian w16 0x0178) 0x0178 (faults.Uncommitted 0x0178) (Reads-number16 q 0x0178 (omega arith)) (λ rest. refl))

pub context_refused : (at : ℕ) (context : List ℕ) (why : ContextFault) → length context ≤ 65535 → context_fault context ≡ Some why → Refuses context_field at (sized context) (BadContext why)
unfolding context_field sized
context_refused at context why short bad =
    let n = to_big_endian w16 (length context) in
    Refuses-bind (number w16) after_context_length at n context (length context) (BadContext why) (Reads-number16 at (length context) (omega arith))
    (Refuses-after (bytes (length context)) (λ read. judge (option_map BadContext (context_fault read)) >> done read) (at + length n) context context (BadContext why) (Reads-bytes (length context) (at + length n) context refl)
    (λ rest. judge_refuses (option_map BadContext (context_fault context)) (BadContext why) (done context) (place (at + length n + length context) rest) (ap (option_map BadContext) bad)))

-- behind the opening and the context
pub behind_context : (settings : Settings) (o : Opening) (context text : List ℕ) (fault : Fault) → OpeningIsRead settings o context
    → Refuses (data_keys settings.max_keys >>= after_keys settings o context) (length (opened_text o context)) text fault → Refuses (header settings) 0 (opened_text o context ++ text) fault
unfolding header opened_text
behind_context settings o context text fault opened refuses =
    let a = opening_text o in
    let c = sized context in
    let at : length (a ++ c) ≡ 0 + length a + length c = omega (arith, length-append a c) in
    let there : Refuses (after_context settings o context) (0 + length a + length c) text fault = subst (λ (n : ℕ). Refuses (after_context settings o context) n text fault) at refuses in
    subst (λ (t : List ℕ). Refuses (opening settings.uncommitted >>= after_opening settings) 0 t fault) (sym (append_assoc a c text))
    (Refuses-bind (opening settings.uncommitted) (after_opening settings) 0 a (c ++ text) o fault (Reads-opening settings.uncommitted 0 o opened.identified.allowed opened.identified.id_len)
    (Refuses-bind context_field (after_context settings o) (0 + length a) c text context fault (Reads-context (0 + length a) context opened.short opened.good) there))

-- ---- the data keys

pub no_keys_refused : (max_keys : Option ℕ) (at : ℕ) → Refuses (data_keys max_keys) at (to_big_endian w16 0) NoDataKeys
unfolding data_keys
no_keys_refused max_keys at =
    Refuses-after (number w16) (after_count max_keys) at (to_big_endian w16 0) 0 NoDataKeys (Reads-number16 at 0 (omega arith)) (λ rest. refl)

pub many_keys_refused : (max_keys : Option ℕ) (at count : ℕ) → 1 ≤ count → count < 2 ^ 16 → IsSomeAnd max_keys (λ most. most < count) → Refuses (data_keys max_keys) at (to_big_endian w16 count) (TooManyDataKeys count)
unfolding data_keys
many_keys_refused max_keys at count some lt over =
    let q = at + length (to_big_endian w16 count) in
    Refuses-after (number w16) (after_count max_keys) at (to_big_endian w16 count) count (TooManyDataKeys count) (Reads-number16 at count lt)
    (λ rest. guard_passes (count == 0) NoDataKeys (refuse_if (is_over max_keys count) (TooManyDataKeys count) >> repeat entry count) (place q rest) (ne_eqb count 0 (λ e. omega arith))
    ∙ guard_refuses (is_over max_keys count) (TooManyDataKeys count) (repeat entry count) (place q rest) (limit_over max_keys count over))

part_refused : (at n : ℕ) → n < 2 ^ 16 → latest_end < at + 2 + n → Refuses entry_part at (to_big_endian w16 n) (HeaderTooLong (at + 2 + n))
unfolding entry_part
part_refused at n lt over =
    let q = at + length (to_big_endian w16 n) in
    let end : q + n ≡ at + 2 + n = omega (arith, length-to_big_endian16 n) in
    Refuses-after (number w16) after_part_length at (to_big_endian w16 n) n (HeaderTooLong (at + 2 + n)) (Reads-number16 at n lt)
    (λ rest. guard_refuses (nat_lt latest_end (q + n)) (HeaderTooLong (q + n)) (bytes n) (place q rest) (lt-ltb latest_end (q + n) (omega arith)) ∙ ap (λ (k : ℕ). Refused (HeaderTooLong k) q) end)

-- the length that ends too late, behind some parts
pub record EndsLate (at : ℕ) (parts : List (List ℕ)) (n end : ℕ) : Type 0 where
  pub short : AllByRecursion (λ part. length part ≤ 65535) parts
  pub before : at + length (flat_map sized parts) ≤ latest_end
  pub fits : n < 2 ^ 16
  pub over : latest_end < end
  pub end_is : end ≡ at + length (flat_map sized parts) + 2 + n

unfoldable pub late_text : List (List ℕ) → ℕ → List ℕ
late_text parts n = flat_map sized parts ++ to_big_endian w16 n

late_text-cons : (x : List ℕ) (parts : List (List ℕ)) (n : ℕ) → late_text (x ∷ parts) n ≡ sized x ++ late_text parts n
unfolding late_text
late_text-cons x parts n = ap (λ (t : List ℕ). t ++ to_big_endian w16 n) (flat_map-cons sized x parts) ∙ append_assoc (sized x) (flat_map sized parts) (to_big_endian w16 n)

-- one part is read
EndsLate-rest : (at : ℕ) (x : List ℕ) (parts : List (List ℕ)) (n end : ℕ) → EndsLate at (x ∷ parts) n end → EndsLate (at + length (sized x)) parts n end
EndsLate-rest at x parts n end late =
    let len : length (flat_map sized (x ∷ parts)) ≡ length (sized x) + length (flat_map sized parts) = ap length (flat_map-cons sized x parts) ∙ length-append (sized x) (flat_map sized parts) in
    record { short = late.short.1; before = omega (arith, late.before, len); fits = late.fits; over = late.over; end_is = omega (arith, late.end_is, len) }

part_within : (at : ℕ) (x : List ℕ) (parts : List (List ℕ)) (n end : ℕ) → EndsLate at (x ∷ parts) n end → at + length (sized x) ≤ latest_end
part_within at x parts n end late = omega (arith, late.before, ap length (flat_map-cons sized x parts), length-append (sized x) (flat_map sized parts))

first_late : (at n end : ℕ) → EndsLate at [] n end → Refuses entry_part at (late_text [] n) (HeaderTooLong end)
unfolding late_text
first_late at n end late =
    let same : at + 2 + n ≡ end = omega (arith, late.end_is) in
    subst (λ (k : ℕ). Refuses entry_part at (to_big_endian w16 n) (HeaderTooLong k)) same (part_refused at n late.fits (omega (arith, late.over)))

-- behind one part
next_late : {A : Type 0} (f : List ℕ → FieldReader A) (at : ℕ) (x : List ℕ) (parts : List (List ℕ)) (n end : ℕ) → EndsLate at (x ∷ parts) n end
    → Refuses (f x) (at + length (sized x)) (late_text parts n) (HeaderTooLong end) → Refuses (entry_part >>= f) at (late_text (x ∷ parts) n) (HeaderTooLong end)
next_late f at x parts n end late refuses =
    subst (λ (t : List ℕ). Refuses (entry_part >>= f) at t (HeaderTooLong end)) (sym (late_text-cons x parts n))
    (Refuses-bind entry_part f at (sized x) (late_text parts n) x (HeaderTooLong end) (Reads-part at x late.short.0 (part_within at x parts n end late)) refuses)

-- what reads a cipher, and what reads further entries behind this one
abbrev ends_entry : List ℕ → List ℕ → List ℕ → FieldReader Entry
ends_entry provider info cipher = done (record { provider = provider; info = info; cipher = cipher })

entry_late : (at : ℕ) (parts : List (List ℕ)) (n end : ℕ) → length parts < 3 → EndsLate at parts n end → Refuses entry at (late_text parts n) (HeaderTooLong end)
unfolding entry
entry_late at [] n end few late = Refuses-first entry_part after_provider at (late_text [] n) (HeaderTooLong end) (first_late at n end late)
entry_late at (x ∷ []) n end few late =
    next_late after_provider at x [] n end late
    (Refuses-first entry_part (after_info x) (at + length (sized x)) (late_text [] n) (HeaderTooLong end) (first_late (at + length (sized x)) n end (EndsLate-rest at x [] n end late)))
entry_late at (x ∷ y ∷ []) n end few late =
    let second = EndsLate-rest at x (y ∷ []) n end late in
    next_late after_provider at x (y ∷ []) n end late
    (next_late (after_info x) (at + length (sized x)) y [] n end second
    (Refuses-first entry_part (ends_entry x y) (at + length (sized x) + length (sized y)) (late_text [] n) (HeaderTooLong end) (first_late (at + length (sized x) + length (sized y)) n end (EndsLate-rest (at + length (sized x)) y [] n end second))))
entry_late at (x ∷ y ∷ z ∷ parts) n end few late = absurd (omega arith)

late_text-entry : (x y z : List ℕ) (parts : List (List ℕ)) (n : ℕ) → late_text (x ∷ y ∷ z ∷ parts) n ≡ edk_text (record { provider = x; info = y; cipher = z }) ++ late_text parts n
unfolding edk_text
late_text-entry x y z parts n =
    late_text-cons x (y ∷ z ∷ parts) n ∙ ap (λ (t : List ℕ). sized x ++ t) (late_text-cons y (z ∷ parts) n ∙ ap (λ (t : List ℕ). sized y ++ t) (late_text-cons z parts n))
    ∙ sym (append_assoc (sized x ++ sized y) (sized z) (late_text parts n) ∙ append_assoc (sized x) (sized y) (sized z ++ late_text parts n))

length-edk_text : (x y z : List ℕ) → length (edk_text (record { provider = x; info = y; cipher = z })) ≡ length (sized x) + length (sized y) + length (sized z)
unfolding edk_text
length-edk_text x y z = omega (arith, length-append (sized x ++ sized y) (sized z), length-append (sized x) (sized y))

pub entries_late : (count at : ℕ) (parts : List (List ℕ)) (n end : ℕ) → length parts < 3 * count → EndsLate at parts n end → Refuses (repeat entry count) at (late_text parts n) (HeaderTooLong end)
unfolding repeat
entries_late zero at parts n end few late = absurd (omega arith)
entries_late (suc count) at [] n end few late =
    Refuses-first entry (λ first. repeat entry count >>= λ others. done (first ∷ others)) at (late_text [] n) (HeaderTooLong end) (entry_late at [] n end (omega arith) late)
entries_late (suc count) at (x ∷ []) n end few late =
    Refuses-first entry (λ first. repeat entry count >>= λ others. done (first ∷ others)) at (late_text (x ∷ []) n) (HeaderTooLong end) (entry_late at (x ∷ []) n end (omega arith) late)
entries_late (suc count) at (x ∷ y ∷ []) n end few late =
    Refuses-first entry (λ first. repeat entry count >>= λ others. done (first ∷ others)) at (late_text (x ∷ y ∷ []) n) (HeaderTooLong end) (entry_late at (x ∷ y ∷ []) n end (omega arith) late)
entries_late (suc count) at (x ∷ y ∷ z ∷ parts) n end few late =
    let e : Entry = record { provider = x; info = y; cipher = z } in
    let first = EndsLate-rest at x (y ∷ z ∷ parts) n end late in
    let second = EndsLate-rest (at + length (sized x)) y (z ∷ parts) n end first in
    let third = EndsLate-rest (at + length (sized x) + length (sized y)) z parts n end second in
    let len : at + length (sized x) + length (sized y) + length (sized z) ≡ at + length (edk_text e) = omega (arith, length-edk_text x y z) in
    let there : EndsLate (at + length (edk_text e)) parts n end = subst (λ (k : ℕ). EndsLate k parts n end) len third in
    let within : at + length (edk_text e) ≤ latest_end = omega (arith, there.before) in
    let fits : IsEntry e = record { provider = late.short.0; info = late.short.1.0; cipher = late.short.1.1.0 } in
    subst (λ (t : List ℕ). Refuses (entry >>= λ first. repeat entry count >>= λ others. done (first ∷ others)) at t (HeaderTooLong end)) (sym (late_text-entry x y z parts n))
    (Refuses-bind entry (λ first. repeat entry count >>= λ others. done (first ∷ others)) at (edk_text e) (late_text parts n) e (HeaderTooLong end) (Reads-entry at e fits within)
    (Refuses-first (repeat entry count) (λ others. done (e ∷ others)) (at + length (edk_text e)) (late_text parts n) (HeaderTooLong end)
    (entries_late count (at + length (edk_text e)) parts n end (omega arith) there)))
