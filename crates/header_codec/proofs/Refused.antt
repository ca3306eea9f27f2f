-- Where the table refuses a header, its fields have that offence.
use Rattle.std.proofs.Common.{◌≡◌, ℕ, zero, suc, ◌+◌, ◌*◌, ◌^◌, ◌<◌, ◌≤◌, Bool, true, false, not, eqb, ◌&&◌, List, [], ◌∷◌, ◌++◌, length, Option, Some, None, refl, sym, ap, subst, ◌∙◌, append_assoc, arith, inl, inr}
use Rattle.std.specs.Prelude.{◌==◌, nat_lt, option_map}
use Rattle.std.specs.Int.{w8, w16}
use Rattle.std.specs.List.{flat_map, AllByRecursion}
use Rattle.std.proofs.lemmas.Bool.{eqb-true, eqb-false, ltb-true, or_parts}
use Rattle.std.proofs.lemmas.List.{length-append}
use Rattle.std.proofs.lemmas.List.Concat.{flat_map-cons}
use Rattle.esdk_fields.specs.declared.faults.ContextFault.{ContextFault}
use Rattle.esdk_fields.specs.declared.faults.Fault.{Fault}
use Rattle.esdk_fields.specs.declared.faults.Fault.TheVariants.{BadVersion, UnsupportedSuite, BadContext, HeaderTooLong, BadType}
use Rattle.esdk_fields.specs.declared.faults.Fault.TheVariants as faults
use Rattle.esdk_fields.specs.Bytes.{AreBytes}
use Rattle.esdk_fields.specs.Place.{Place, start}
use Rattle.esdk_fields.specs.Numbers.{from_big_endian, to_big_endian}
use Rattle.esdk_fields.specs.Reading.{Read, Refused, ◌>>=◌, ◌>>◌, done, bytes, number, refuse_if, judge, repeat}
use Rattle.esdk_fields.specs.Sized.{sized}
use Rattle.esdk_fields.proofs.Again.{length-to_big_endian16}
use Rattle.esdk_fields.proofs.Inverse.{read_same, then_is_read, then_is_refused, field_not_refused}
use Rattle.esdk_fields.proofs.Taken.{IsTaken, IsTaken-then, bytes_taken, number8_taken, number16_taken}
use Rattle.suite_table.specs.declared.suite.Suite.{Suite}
use Rattle.suite_table.specs.declared.suite.Suite.TheVariants.{Committing, Uncommitted}
use Rattle.suite_table.specs.Suites.{suite_id, format_version, id_length}
use Rattle.context_codec.specs.Split.{context_fault}
use Rattle.edk_codec.specs.Entry.{Entry}
use Rattle.header_codec.specs.declared.settings.Settings.{Settings}
use Rattle.header_codec.specs.Header.{Opening, latest_end, type_text, version_text, opening_text}
use Rattle.header_codec.specs.Table.{is_version, suite_of_version, is_forbidden, type_field, suite_field, identity, opening, context_field, entry_part, entry}
use Rattle.header_codec.specs.Offence.{IsIdentified, opened_text, Offends, HasOffence}
use Rattle.header_codec.specs.Offence.{Version, MessageType, Forbidden, SuiteId, Context}
use Rattle.header_codec.proofs.Steps.{after_version, after_type, after_suite_id, after_suite, after_type_field, after_context_length, after_part_length, after_provider, after_info}
use Rattle.header_codec.proofs.Readings.{guard_refused, judge_refused, refuse_refused, read_not_refused}
use Rattle.header_codec.proofs.Fronts.{not_false, version_is, type_taken, part_taken, entry_taken}

-- fields at the front of the bytes that offend so
pub offends_at : (settings : Settings) (b fields : List ℕ) (q : Place) (fault : Fault) (at : ℕ) → IsTaken (start b) fields q → at ≡ q.at → Offends settings fields fault → HasOffence settings b fault at
offends_at settings b fields q fault at taken end offends = record { fields = fields; rest = q.left; front = taken.front; end = omega (arith, end, taken.end); offends = offends }

pub not_true : (b : Bool) → not b ≡ true → b ≡ false
not_true true e = absurd cc
not_true false e = refl

-- ---- version, type and suite id

type_offends : (settings : Settings) (b : List ℕ) (suite : Suite) (p : Place) (fault : Fault) (at : ℕ) → IsTaken (start b) (to_big_endian w8 (format_version suite)) p → type_field suite p ≡ Refused fault at
    → HasOffence settings b fault at
unfolding type_field
type_offends settings b Committing p fault at front e = absurd (read_not_refused {A = Unit {0}} tt p fault at e)
type_offends settings b Uncommitted p fault at front e =
    elim (then_is_refused (number w8 p) after_type fault at e) [
      | inl none ↦ absurd (field_not_refused (from_big_endian w8) 1 p fault at none)
      | inr a ↦
          let k = number8_taken p a.value a.next front.rest a.first in
          let own = refuse_refused (not (a.value == 0x80)) (BadType a.value) a.next fault at a.second in
          offends_at settings b (to_big_endian w8 1 ++ to_big_endian w8 a.value) a.next fault at (IsTaken-then (start b) (to_big_endian w8 1) p (to_big_endian w8 a.value) a.next front k.0) own.end
          (MessageType a.value k.1 (eqb-false a.value 0x80 (not_true (a.value == 0x80) own.test)) refl own.fault_is)
    ]

both_of : (a b : Bool) → (a && b) ≡ true → (a ≡ true) × (b ≡ true)
both_of true b e = (refl, e)
both_of false b e = absurd cc

-- what is forbidden is the uncommitted suite's own id, where it isn't allowed
forbidden_is : (uncommitted : Bool) (suite : Suite) (id : ℕ) → is_forbidden uncommitted suite id ≡ true → (suite ≡ Uncommitted) × (id ≡ suite_id Uncommitted) × (uncommitted ≡ false)
forbidden_is uncommitted Committing id e = absurd cc
forbidden_is uncommitted Uncommitted id e =
    let both = both_of (eqb id 0x0178) (not uncommitted) e in
    (refl, eqb-true id 0x0178 both.0, not_true uncommitted both.1)

suite_offends : (settings : Settings) (b : List ℕ) (suite : Suite) (p : Place) (fault : Fault) (at : ℕ) → IsTaken (start b) (version_text suite) p → suite_field settings.uncommitted suite p ≡ Refused fault at
    → HasOffence settings b fault at
unfolding suite_field
suite_offends settings b suite p fault at front e =
    elim (then_is_refused (number w16 p) (after_suite_id settings.uncommitted suite) fault at e) [
      | inl none ↦ absurd (field_not_refused (from_big_endian w16) 2 p fault at none)
      | inr a ↦
          let s = number16_taken p a.value a.next front.rest a.first in
          let fields = IsTaken-then (start b) (version_text suite) p (to_big_endian w16 a.value) a.next front s.0 in
          elim (guard_refused (is_forbidden settings.uncommitted suite a.value) (faults.Uncommitted a.value) (refuse_if (not (a.value == suite_id suite)) (UnsupportedSuite a.value)) a.next fault at a.second) [
            | inl own ↦
                let is = forbidden_is settings.uncommitted suite a.value own.test in
                offends_at settings b (version_text suite ++ to_big_endian w16 a.value) a.next fault at fields own.end
                (Forbidden is.2 (ap (λ (x : Suite). version_text x ++ to_big_endian w16 a.value) is.0 ∙ ap (λ (n : ℕ). version_text Uncommitted ++ to_big_endian w16 n) is.1) (own.fault_is ∙ ap (λ (n : ℕ). faults.Uncommitted n) is.1))
            | inr passed ↦
                let own = refuse_refused (not (a.value == suite_id suite)) (UnsupportedSuite a.value) a.next fault at passed.1 in
                offends_at settings b (version_text suite ++ to_big_endian w16 a.value) a.next fault at fields own.end
                (SuiteId suite a.value s.1 (eqb-false a.value (suite_id suite) (not_true (a.value == suite_id suite) own.test)) refl own.fault_is)
          ]
    ]

identity_offends : (settings : Settings) (b : List ℕ) (suite : Suite) (p : Place) (fault : Fault) (at : ℕ) → IsTaken (start b) (to_big_endian w8 (format_version suite)) p → identity settings.uncommitted suite p ≡ Refused fault at
    → HasOffence settings b fault at
unfolding identity version_text
identity_offends settings b suite p fault at front e =
    elim (then_is_refused (type_field suite p) (λ _. after_type_field settings.uncommitted suite) fault at e) [
      | inl first ↦ type_offends settings b suite p fault at front first
      | inr t ↦
          let typed = type_taken suite p t.value t.next front.rest t.first in
          let version = IsTaken-then (start b) (to_big_endian w8 (format_version suite)) p (type_text suite) t.next front typed in
          elim (then_is_refused (suite_field settings.uncommitted suite t.next) (λ _. after_suite suite) fault at t.second) [
            | inl second ↦ suite_offends settings b suite t.next fault at version second
            | inr s ↦ elim (then_is_refused (bytes (id_length suite) s.next) (λ id. done (made id)) fault at s.second) [
              | inl none ↦ absurd (field_not_refused (λ x. x) (id_length suite) s.next fault at none)
              | inr i ↦ absurd (not_refused (made i.value) i.next fault at i.second)
            ]
          ]
    ]
  where
    made : List ℕ → Opening
    made id = record { suite = suite; id = id }

    not_refused : (x : Opening) (q : Place) (f : Fault) (n : ℕ) → Read x q ≡ Refused f n → ⊥
    not_refused x q f n e = cc

pub opening_offends : (settings : Settings) (b : List ℕ) (fault : Fault) (at : ℕ) → AreBytes b → opening settings.uncommitted (start b) ≡ Refused fault at → HasOffence settings b fault at
unfolding opening
opening_offends settings b fault at fits e =
    elim (then_is_refused (number w8 (start b)) (after_version settings.uncommitted) fault at e) [
      | inl none ↦ absurd (field_not_refused (from_big_endian w8) 1 (start b) fault at none)
      | inr a ↦
          let v = number8_taken (start b) a.value a.next fits a.first in
          let suite = suite_of_version a.value in
          elim (guard_refused (not (is_version a.value)) (BadVersion a.value) (identity settings.uncommitted suite) a.next fault at a.second) [
            | inl own ↦
                let no = or_parts (eqb a.value 1) (eqb a.value 2) (not_true (is_version a.value) own.test) in
                offends_at settings b (to_big_endian w8 a.value) a.next fault at v.0 own.end (Version a.value v.1 (eqb-false a.value 1 no.0) (eqb-false a.value 2 no.1) refl own.fault_is)
            | inr passed ↦
                let version : IsTaken (start b) (to_big_endian w8 (format_version suite)) a.next =
                subst (λ (n : ℕ). IsTaken (start b) (to_big_endian w8 n) a.next) (version_is a.value (not_false (is_version a.value) passed.0)) v.0 in
                identity_offends settings b suite a.next fault at version passed.1
          ]
    ]

-- ---- the context

why_bad : (o : Option ContextFault) (fault : Fault) → option_map BadContext o ≡ Some fault → (why : ContextFault) × (o ≡ Some why) × (fault ≡ BadContext why)
why_bad (Some why) fault e = (why, refl, cc)
why_bad None fault e = absurd cc

pub context_offends : (settings : Settings) (b : List ℕ) (o : Opening) (p : Place) (fault : Fault) (at : ℕ) → IsTaken (start b) (opening_text o) p → IsIdentified settings o → context_field p ≡ Refused fault at → HasOffence settings b fault at
unfolding context_field opened_text sized
context_offends settings b o p fault at front known e =
    elim (then_is_refused (number w16 p) after_context_length fault at e) [
      | inl none ↦ absurd (field_not_refused (from_big_endian w16) 2 p fault at none)
      | inr a ↦
          let n = number16_taken p a.value a.next front.rest a.first in
          elim (then_is_refused (bytes a.value a.next) (λ read. judge (option_map BadContext (context_fault read)) >> done read) fault at a.second) [
            | inl none ↦ absurd (field_not_refused (λ x. x) a.value a.next fault at none)
            | inr c ↦
                let t = bytes_taken a.value a.next c.value c.next n.0.rest c.first in
                let text : IsTaken p (to_big_endian w16 (length c.value) ++ c.value) c.next = rw t.1 (IsTaken-then p (to_big_endian w16 a.value) a.next c.value c.next n.0 t.0) in
                elim (judge_refused (option_map BadContext (context_fault c.value)) (done c.value) c.next fault at c.second) [
                  | inl own ↦
                      let why = why_bad (context_fault c.value) fault own.0 in
                      offends_at settings b (opening_text o ++ (to_big_endian w16 (length c.value) ++ c.value)) c.next fault at (IsTaken-then (start b) (opening_text o) p (to_big_endian w16 (length c.value) ++ c.value) c.next front text) own.1
                      (Context o c.value why.0 known (omega (arith, n.1, t.1)) why.1 refl why.2)
                  | inr late ↦ absurd (not_refused c.value c.next fault at late.1)
                ]
          ]
    ]
  where
    not_refused : (x : List ℕ) (q : Place) (f : Fault) (n : ℕ) → Read x q ≡ Refused f n → ⊥
    not_refused x q f n e = cc

-- ---- the parts of the entries

-- some parts, fewer than the bound, and the length of the next, which ends too late
pub record LateParts (bound : ℕ) (p : Place) (fault : Fault) (at : ℕ) : Type 0 where
  pub parts : List (List ℕ)
  pub n : ℕ
  pub next : Place
  pub few : length parts < bound
  pub short : AllByRecursion (λ part. length part ≤ 65535) parts
  pub fits : n < 2 ^ 16
  pub taken : IsTaken p (flat_map sized parts ++ to_big_endian w16 n) next
  pub end : at ≡ next.at
  pub before : p.at + length (flat_map sized parts) ≤ latest_end
  pub over : latest_end < p.at + length (flat_map sized parts) + 2 + n
  pub fault_is : fault ≡ HeaderTooLong (p.at + length (flat_map sized parts) + 2 + n)

-- more parts before
late_after : (bound : ℕ) (p : Place) (x : List ℕ) (q : Place) (fault : Fault) (at : ℕ) → IsTaken p (sized x) q → length x ≤ 65535 → LateParts bound q fault at → LateParts (suc bound) p fault at
late_after bound p x q fault at first short late =
    let cons : flat_map sized (x ∷ late.parts) ≡ sized x ++ flat_map sized late.parts = flat_map-cons sized x late.parts in
    let len : q.at + length (flat_map sized late.parts) ≡ p.at + length (flat_map sized (x ∷ late.parts)) = omega (arith, ap length cons, length-append (sized x) (flat_map sized late.parts), first.end) in
    let text : sized x ++ (flat_map sized late.parts ++ to_big_endian w16 late.n) ≡ flat_map sized (x ∷ late.parts) ++ to_big_endian w16 late.n =
    sym (append_assoc (sized x) (flat_map sized late.parts) (to_big_endian w16 late.n)) ∙ ap (λ (t : List ℕ). t ++ to_big_endian w16 late.n) (sym cons) in
    record {
      parts = x ∷ late.parts;
      n = late.n;
      next = late.next;
      few = omega (arith, late.few);
      short = (short, late.short);
      fits = late.fits;
      taken = subst (λ (t : List ℕ). IsTaken p t late.next) text (IsTaken-then p (sized x) q (flat_map sized late.parts ++ to_big_endian w16 late.n) late.next first late.taken);
      end = late.end;
      before = omega (arith, late.before, len);
      over = omega (arith, late.over, len);
      fault_is = late.fault_is ∙ ap (λ (k : ℕ). HeaderTooLong (k + 2 + late.n)) len;
    }

late_more : (bound more : ℕ) (p : Place) (fault : Fault) (at : ℕ) → bound ≤ more → LateParts bound p fault at → LateParts more p fault at
late_more bound more p fault at h late = record {
  parts = late.parts;
  n = late.n;
  next = late.next;
  few = omega (arith, late.few);
  short = late.short;
  fits = late.fits;
  taken = late.taken;
  end = late.end;
  before = late.before;
  over = late.over;
  fault_is = late.fault_is;
}

part_late : (p : Place) (fault : Fault) (at : ℕ) → AreBytes p.left → p.at ≤ latest_end → entry_part p ≡ Refused fault at → LateParts 1 p fault at
unfolding entry_part
part_late p fault at fits low e =
    elim (then_is_refused (number w16 p) after_part_length fault at e) [
      | inl none ↦ absurd (field_not_refused (from_big_endian w16) 2 p fault at none)
      | inr a ↦
          let n = number16_taken p a.value a.next fits a.first in
          let end : a.next.at ≡ p.at + 2 = omega (arith, n.0.end, length-to_big_endian16 a.value) in
          elim (guard_refused (nat_lt latest_end (a.next.at + a.value)) (HeaderTooLong (a.next.at + a.value)) (bytes a.value) a.next fault at a.second) [
            | inl own ↦
                let over : latest_end < a.next.at + a.value = ltb-true latest_end (a.next.at + a.value) own.test in
                let sum : a.next.at + a.value ≡ p.at + length (nothing) + 2 + a.value = omega arith in
                record {
                  parts = [];
                  n = a.value;
                  next = a.next;
                  few = omega arith;
                  short = tt;
                  fits = n.1;
                  taken = n.0;
                  end = own.end;
                  before = omega arith;
                  over = omega arith;
                  fault_is = own.fault_is ∙ ap (λ (k : ℕ). HeaderTooLong k) sum;
                }
            | inr late ↦ absurd (field_not_refused (λ x. x) a.value a.next fault at late.1)
          ]
    ]
  where
    nothing : List ℕ
    nothing = []

entry_late : (p : Place) (fault : Fault) (at : ℕ) → AreBytes p.left → p.at ≤ latest_end → entry p ≡ Refused fault at → LateParts 3 p fault at
unfolding entry
entry_late p fault at fits low e =
    elim (then_is_refused (entry_part p) after_provider fault at e) [
      | inl first ↦ late_more 1 3 p fault at (omega arith) (part_late p fault at fits low first)
      | inr a ↦
          let provider = part_taken p a.value a.next fits a.first in
          elim (then_is_refused (entry_part a.next) (after_info a.value) fault at a.second) [
            | inl second ↦ late_more 2 3 p fault at (omega arith) (late_after 1 p a.value a.next fault at provider.0 provider.1 (part_late a.next fault at provider.0.rest provider.2 second))
            | inr b ↦
                let info = part_taken a.next b.value b.next provider.0.rest b.first in
                elim (then_is_refused (entry_part b.next) (λ cipher. done (record { provider = a.value; info = b.value; cipher = cipher })) fault at b.second) [
                  | inl third ↦ late_after 2 p a.value a.next fault at provider.0 provider.1 (late_after 1 a.next b.value b.next fault at info.0 info.1 (part_late b.next fault at info.0.rest info.2 third))
                  | inr c ↦ absurd (not_refused (record { provider = a.value; info = b.value; cipher = c.value }) c.next fault at c.second)
                ]
          ]
    ]
  where
    not_refused : (x : Entry) (q : Place) (f : Fault) (n : ℕ) → Read x q ≡ Refused f n → ⊥
    not_refused x q f n e = cc

-- more parts after a whole entry
late_after_entry : (bound : ℕ) (p : Place) (e : Entry) (q : Place) (fault : Fault) (at : ℕ) → AreBytes p.left → entry p ≡ Read e q → LateParts bound q fault at → LateParts (suc (suc (suc bound))) p fault at
unfolding entry
late_after_entry bound p e q fault at fits r late =
    let a = then_is_read (entry_part p) after_provider e q r in
    let b = then_is_read (entry_part a.next) (after_info a.value) e q a.second in
    let c = then_is_read (entry_part b.next) (λ cipher. done (record { provider = a.value; info = b.value; cipher = cipher })) e q b.second in
    let same = read_same (record { provider = a.value; info = b.value; cipher = c.value }) e c.next q c.second in
    let first = part_taken p a.value a.next fits a.first in
    let second = part_taken a.next b.value b.next first.0.rest b.first in
    let third = part_taken b.next c.value c.next second.0.rest c.first in
    let there : LateParts bound c.next fault at = subst (λ (n : Place). LateParts bound n fault at) (sym same.1) late in
    late_after (suc (suc bound)) p a.value a.next fault at first.0 first.1
    (late_after (suc bound) a.next b.value b.next fault at second.0 second.1
    (late_after bound b.next c.value c.next fault at third.0 third.1 there))

pub entries_late : (count : ℕ) (p : Place) (fault : Fault) (at : ℕ) → AreBytes p.left → p.at ≤ latest_end → repeat entry count p ≡ Refused fault at → LateParts (3 * count) p fault at
unfolding repeat
entries_late zero p fault at fits low e = absurd (not_refused [] p fault at e)
  where
    not_refused : (x : List Entry) (q : Place) (f : Fault) (n : ℕ) → Read x q ≡ Refused f n → ⊥
    not_refused x q f n e = cc
entries_late (suc count) p fault at fits low e =
    elim (then_is_refused (entry p) (λ first. repeat entry count >>= λ others. done (first ∷ others)) fault at e) [
      | inl first ↦ late_more 3 (3 * suc count) p fault at (omega arith) (entry_late p fault at fits low first)
      | inr a ↦
          let one = entry_taken p a.value a.next fits a.first in
          elim (then_is_refused (repeat entry count a.next) (λ others. done (a.value ∷ others)) fault at a.second) [
            | inl others ↦ late_more (suc (suc (suc (3 * count)))) (3 * suc count) p fault at (omega arith)
                (late_after_entry (3 * count) p a.value a.next fault at fits a.first (entries_late count a.next fault at one.0.rest one.2 others))
            | inr b ↦ absurd (not_refused (a.value ∷ b.value) b.next fault at b.second)
          ]
    ]
  where
    not_refused : (x : List Entry) (q : Place) (f : Fault) (n : ℕ) → Read x q ≡ Refused f n → ⊥
    not_refused x q f n e = cc
