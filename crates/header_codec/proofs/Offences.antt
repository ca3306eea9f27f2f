-- Where the table refuses a header, its fields have that offence: the data keys, the content, and the whole.
use Rattle.std.proofs.Common.{◌≡◌, ◌≢◌, ℕ, ◌+◌, ◌*◌, ◌<◌, ◌≤◌, Bool, true, false, not, cond, eqb, ◌&&◌, ◌||◌, List, ◌++◌, length, Option, refl, sym, ap, subst, ◌∙◌, append_assoc, arith, inl, inr, ◌⊎◌}
use Rattle.std.specs.Prelude.{◌==◌, IsSomeAnd}
use Rattle.std.specs.Int.{w8, w16, w32}
use Rattle.std.specs.List.{flat_map}
use Rattle.std.proofs.lemmas.Bool.{eqb-true, eqb-false, or_parts}
use Rattle.std.proofs.lemmas.List.{length-append}
use Rattle.std.proofs.lemmas.List.Elements.{All-from_recursion}
use Rattle.esdk_fields.specs.declared.faults.Fault.{Fault}
use Rattle.esdk_fields.specs.declared.faults.Fault.TheVariants.{NoDataKeys, TooManyDataKeys, BadContentType, BadFrameLength, HeaderTooLong, UnitTooLong, BadReserved, BadIvLength}
use Rattle.esdk_fields.specs.declared.contents.Content.{Content}
use Rattle.esdk_fields.specs.Bytes.{AreBytes}
use Rattle.esdk_fields.specs.Place.{Place, start}
use Rattle.esdk_fields.specs.Numbers.{from_big_endian, to_big_endian}
use Rattle.esdk_fields.specs.Reading.{Read, Refused, ◌>>=◌, ◌>>◌, done, bytes, number, refuse_if, repeat}
use Rattle.esdk_fields.specs.Sized.{sized}
use Rattle.esdk_fields.proofs.Again.{length-to_big_endian16}
use Rattle.esdk_fields.proofs.Inverse.{then_is_refused, field_not_refused}
use Rattle.esdk_fields.proofs.Sized.{length-sized}
use Rattle.esdk_fields.proofs.Taken.{IsTaken, IsTaken-then, number8_taken, number16_taken, number32_taken}
use Rattle.suite_table.specs.declared.suite.Suite.{Suite}
use Rattle.suite_table.specs.declared.suite.Suite.TheVariants.{Committing, Uncommitted}
use Rattle.suite_table.specs.Suites.{data_length}
use Rattle.edk_codec.specs.Entry.{Entry, IsEntry}
use Rattle.header_codec.specs.declared.settings.Settings.{Settings}
use Rattle.header_codec.specs.Header.{Opening, latest_end, opening_text, edks_text, reserved_text}
use Rattle.esdk_fields.specs.Limits.{is_over}
use Rattle.header_codec.specs.Table.{HeaderFields, is_content_type, is_frame_length, is_unit_over, content_of, opening, context_field, entry, data_keys, reserved, content_field, header_iv, header}
use Rattle.header_codec.specs.Offence.{opened_text, IsIdentified, OpeningIsRead, IsCount, parts_text, keys_text, AreKeys, IsType, typed_text, HasOffence}
use Rattle.header_codec.specs.Offence.{NoKeys, ManyKeys, LatePart, ContentType, Reserved, IvLength, FrameLength, LongFrame}
use Rattle.header_codec.proofs.Steps.{after_count, after_kind, after_iv_length, after_zeros, after_reserved, after_type_of_content, after_frame, after_opening, after_context, after_keys, after_content, after_commitment, after_iv, head_with}
use Rattle.header_codec.proofs.Readings.{guard_refused, refuse_refused, read_not_refused}
use Rattle.header_codec.proofs.Fronts.{not_false, opening_taken, context_taken}
use Rattle.esdk_fields.proofs.Limited.{within_limit, over_limit}
use Rattle.header_codec.proofs.Spelled.{keys_taken, reserved_taken, opening_short}
use Rattle.header_codec.proofs.Refused.{offends_at, not_true, opening_offends, context_offends, LateParts, entries_late}

pub length-opened_text : (o : Opening) (context : List ℕ) → length (opened_text o context) ≡ length (opening_text o) + 2 + length context
unfolding opened_text
length-opened_text o context = omega (arith, length-append (opening_text o) (sized context), length-sized context)

-- ---- the data keys

late_offends : (settings : Settings) (b : List ℕ) (o : Opening) (context : List ℕ) (count : ℕ) (p : Place) (fault : Fault) (at : ℕ) → IsTaken (start b) (opened_text o context ++ to_big_endian w16 count) p
    → OpeningIsRead settings o context → IsCount settings count → LateParts (3 * count) p fault at → HasOffence settings b fault at
unfolding parts_text
late_offends settings b o context count p fault at front opened counted late =
    let before : List ℕ = opened_text o context ++ to_big_endian w16 count in
    let flat : List ℕ = flat_map sized late.parts in
    let len : p.at + length flat ≡ length (before ++ flat) = omega (arith, length-append before flat, front.end) in
    let whole : IsTaken (start b) ((before ++ flat) ++ to_big_endian w16 late.n) late.next =
    subst (λ (t : List ℕ). IsTaken (start b) t late.next) (sym (append_assoc before flat (to_big_endian w16 late.n))) (IsTaken-then (start b) before p (flat ++ to_big_endian w16 late.n) late.next front late.taken) in
    offends_at settings b ((before ++ flat) ++ to_big_endian w16 late.n) late.next fault at whole late.end
    (LatePart o context count late.parts late.n opened counted late.few (All-from_recursion (λ part. length part ≤ 65535) late.parts late.short) (omega (arith, late.before, len)) late.fits (omega (arith, late.over, len)) refl
    (late.fault_is ∙ ap (λ (k : ℕ). HeaderTooLong (k + 2 + late.n)) len))

keys_offends : (settings : Settings) (b : List ℕ) (o : Opening) (context : List ℕ) (p : Place) (fault : Fault) (at : ℕ) → IsTaken (start b) (opened_text o context) p → OpeningIsRead settings o context → data_keys settings.max_keys p ≡ Refused fault at
    → HasOffence settings b fault at
unfolding data_keys
keys_offends settings b o context p fault at front opened e =
    elim (then_is_refused (number w16 p) (after_count settings.max_keys) fault at e) [
      | inl none ↦ absurd (field_not_refused (from_big_endian w16) 2 p fault at none)
      | inr a ↦
          let n = number16_taken p a.value a.next front.rest a.first in
          let both = IsTaken-then (start b) (opened_text o context) p (to_big_endian w16 a.value) a.next front n.0 in
          elim (guard_refused (a.value == 0) NoDataKeys (refuse_if (is_over settings.max_keys a.value) (TooManyDataKeys a.value) >> repeat entry a.value) a.next fault at a.second) [
            | inl own ↦ offends_at settings b (opened_text o context ++ to_big_endian w16 a.value) a.next fault at both own.end
                (NoKeys o context opened (ap (λ (k : ℕ). opened_text o context ++ to_big_endian w16 k) (eqb-true a.value 0 own.test)) own.fault_is)
            | inr some ↦
                let one : 1 ≤ a.value = omega (arith, eqb-false a.value 0 some.0) in
                elim (guard_refused (is_over settings.max_keys a.value) (TooManyDataKeys a.value) (repeat entry a.value) a.next fault at some.1) [
                  | inl own ↦ offends_at settings b (opened_text o context ++ to_big_endian w16 a.value) a.next fault at both own.end
                      (ManyKeys o context a.value opened one n.1 (over_limit settings.max_keys a.value own.test) refl own.fault_is)
                  | inr within ↦
                      let low : a.next.at ≤ latest_end = omega (arith, both.end, length-append (opened_text o context) (to_big_endian w16 a.value), n.0.end, front.end, length-opened_text o context, opening_short o opened.identified.id_len, opened.short, two p a.value a.next n.0) in
                      late_offends settings b o context a.value a.next fault at both opened (record { some = one; few = omega (arith, n.1); limit = within_limit settings.max_keys a.value within.0 })
                      (entries_late a.value a.next fault at n.0.rest low within.1)
                ]
          ]
    ]
  where
    two : (p : Place) (n : ℕ) (next : Place) → IsTaken p (to_big_endian w16 n) next → next.at ≡ p.at + 2
    two p n next taken = omega (arith, taken.end, length-to_big_endian16 n)

-- ---- the content

wrong_by : (single : Bool) (kind frame : ℕ) → eqb kind 1 ≡ single → (single || eqb kind 2) ≡ true → cond single (eqb frame 0) (not (eqb frame 0)) ≡ false
    → ((kind ≡ 1) × (frame ≢ 0)) ⊎ ((kind ≡ 2) × (frame ≡ 0))
wrong_by true kind frame one type wrong = inl (eqb-true kind 1 one, eqb-false frame 0 wrong)
wrong_by false kind frame one type wrong = inr (eqb-true kind 2 type, eqb-true frame 0 (not_false (eqb frame 0) wrong))

-- frames that are too long are frames
record LongFrames (max_unit : Option ℕ) (kind frame : ℕ) : Type 0 where
  kind_is : kind ≡ 2
  some : 1 ≤ frame
  over : IsSomeAnd max_unit (λ most. most < frame)

and_both : (a c : Bool) → (a && c) ≡ true → (a ≡ true) × (c ≡ true)
and_both true c e = (refl, e)
and_both false c e = absurd cc

long_by : (single : Bool) (max_unit : Option ℕ) (kind frame : ℕ) → eqb kind 1 ≡ single → cond single (eqb frame 0) (not (eqb frame 0)) ≡ true → is_unit_over max_unit kind frame ≡ true → LongFrames max_unit kind frame
long_by true max_unit kind frame one length over =
    let both = and_both (eqb kind 2) (is_over max_unit frame) over in
    absurd (omega (arith, eqb-true kind 1 one, eqb-true kind 2 both.0))
long_by false max_unit kind frame one length over =
    let both = and_both (eqb kind 2) (is_over max_unit frame) over in
    record { kind_is = eqb-true kind 2 both.0; some = omega (arith, eqb-false frame 0 (not_true (eqb frame 0) length)); over = over_limit max_unit frame both.1 }

type_by : (one two : Bool) (kind : ℕ) → eqb kind 1 ≡ one → eqb kind 2 ≡ two → (one || two) ≡ true → IsType kind
type_by true two kind first second known = inl (eqb-true kind 1 first)
type_by false true kind first second known = inr (eqb-true kind 2 second)
type_by false false kind first second known = absurd cc

reserved_offends : (settings : Settings) (b : List ℕ) (o : Opening) (context : List ℕ) (entries : List Entry) (kind : ℕ) (suite : Suite) (p : Place) (fault : Fault) (at : ℕ)
    → IsTaken (start b) (keys_text o context entries ++ to_big_endian w8 kind) p → AreKeys settings o context entries → IsType kind → o.suite ≡ suite → reserved suite p ≡ Refused fault at
    → HasOffence settings b fault at
unfolding reserved
reserved_offends settings b o context entries kind Committing p fault at front keys type is e = absurd (read_not_refused {A = Unit {0}} tt p fault at e)
reserved_offends settings b o context entries kind Uncommitted p fault at front keys type is e =
    let before : List ℕ = keys_text o context entries ++ to_big_endian w8 kind in
    elim (then_is_refused (number w32 p) after_zeros fault at e) [
      | inl none ↦ absurd (field_not_refused (from_big_endian w32) 4 p fault at none)
      | inr a ↦
          let z = number32_taken p a.value a.next front.rest a.first in
          let zeros = IsTaken-then (start b) before p (to_big_endian w32 a.value) a.next front z.0 in
          elim (guard_refused (not (a.value == 0)) (BadReserved a.value) (number w8 >>= after_iv_length) a.next fault at a.second) [
            | inl own ↦
                offends_at settings b (before ++ to_big_endian w32 a.value) a.next fault at zeros own.end
                (Reserved o context entries kind a.value keys is type z.1 (eqb-false a.value 0 (not_true (a.value == 0) own.test)) refl own.fault_is)
            | inr passed ↦
                let none : IsTaken (start b) (before ++ to_big_endian w32 0) a.next =
                subst (λ (n : ℕ). IsTaken (start b) (before ++ to_big_endian w32 n) a.next) (eqb-true a.value 0 (not_false (a.value == 0) passed.0)) zeros in
                elim (then_is_refused (number w8 a.next) after_iv_length fault at passed.1) [
                  | inl short ↦ absurd (field_not_refused (from_big_endian w8) 1 a.next fault at short)
                  | inr c ↦
                      let l = number8_taken a.next c.value c.next z.0.rest c.first in
                      let own = refuse_refused (not (c.value == 12)) (BadIvLength c.value) c.next fault at c.second in
                      offends_at settings b (before ++ to_big_endian w32 0 ++ to_big_endian w8 c.value) c.next fault at
                      (IsTaken-then (start b) (before ++ to_big_endian w32 0) a.next (to_big_endian w8 c.value) c.next none l.0) own.end
                      (IvLength o context entries kind c.value keys is type l.1 (eqb-false c.value 12 (not_true (c.value == 12) own.test)) refl own.fault_is)
                ]
          ]
    ]

-- the frame length, behind content type and reserved bytes
frame_offends : (settings : Settings) (b : List ℕ) (o : Opening) (context : List ℕ) (entries : List Entry) (kind : ℕ) (p : Place) (fault : Fault) (at : ℕ)
    → IsTaken (start b) (typed_text o context entries kind) p → AreKeys settings o context entries → is_content_type kind ≡ true → after_reserved settings.max_unit kind p ≡ Refused fault at
    → HasOffence settings b fault at
frame_offends settings b o context entries kind p fault at front keys type e =
    let before : List ℕ = typed_text o context entries kind in
    elim (then_is_refused (number w32 p) (after_frame settings.max_unit kind) fault at e) [
      | inl none ↦ absurd (field_not_refused (from_big_endian w32) 4 p fault at none)
      | inr c ↦
          let f = number32_taken p c.value c.next front.rest c.first in
          let framed = IsTaken-then (start b) before p (to_big_endian w32 c.value) c.next front f.0 in
          elim (guard_refused (not (is_frame_length kind c.value)) (BadFrameLength c.value) (refuse_if (is_unit_over settings.max_unit kind c.value) (UnitTooLong c.value) >> done (content_of kind c.value)) c.next fault at c.second) [
            | inl own ↦
                offends_at settings b (before ++ to_big_endian w32 c.value) c.next fault at framed own.end
                (FrameLength o context entries kind c.value keys f.1 (wrong_by (eqb kind 1) kind c.value refl type (not_true (is_frame_length kind c.value) own.test)) refl own.fault_is)
            | inr length ↦
                elim (guard_refused (is_unit_over settings.max_unit kind c.value) (UnitTooLong c.value) (done (content_of kind c.value)) c.next fault at length.1) [
                  | inl own ↦
                      let long = long_by (eqb kind 1) settings.max_unit kind c.value refl (not_false (is_frame_length kind c.value) length.0) own.test in
                      offends_at settings b (before ++ to_big_endian w32 c.value) c.next fault at framed own.end
                      (LongFrame o context entries c.value keys long.some f.1 long.over (ap (λ (n : ℕ). typed_text o context entries n ++ to_big_endian w32 c.value) long.kind_is) own.fault_is)
                  | inr late ↦ absurd (not_refused (content_of kind c.value) c.next fault at late.1)
                ]
          ]
    ]
  where
    not_refused : (x : Content) (q : Place) (f : Fault) (n : ℕ) → Read x q ≡ Refused f n → ⊥
    not_refused x q f n e = cc

content_offends : (settings : Settings) (b : List ℕ) (o : Opening) (context : List ℕ) (entries : List Entry) (p : Place) (fault : Fault) (at : ℕ) → IsTaken (start b) (keys_text o context entries) p → AreKeys settings o context entries
    → content_field o.suite settings.max_unit p ≡ Refused fault at → HasOffence settings b fault at
unfolding content_field typed_text
content_offends settings b o context entries p fault at front keys e =
    let before : List ℕ = keys_text o context entries in
    elim (then_is_refused (number w8 p) (after_kind o.suite settings.max_unit) fault at e) [
      | inl none ↦ absurd (field_not_refused (from_big_endian w8) 1 p fault at none)
      | inr a ↦
          let k = number8_taken p a.value a.next front.rest a.first in
          let kind = IsTaken-then (start b) before p (to_big_endian w8 a.value) a.next front k.0 in
          elim (guard_refused (not (is_content_type a.value)) (BadContentType a.value) (after_type_of_content o.suite settings.max_unit a.value) a.next fault at a.second) [
            | inl own ↦
                let no = or_parts (eqb a.value 1) (eqb a.value 2) (not_true (is_content_type a.value) own.test) in
                offends_at settings b (before ++ to_big_endian w8 a.value) a.next fault at kind own.end
                (ContentType o context entries a.value keys k.1 (eqb-false a.value 1 no.0) (eqb-false a.value 2 no.1) refl own.fault_is)
            | inr type ↦
                let yes : is_content_type a.value ≡ true = not_false (is_content_type a.value) type.0 in
                elim (then_is_refused (reserved o.suite a.next) (λ _. after_reserved settings.max_unit a.value) fault at type.1) [
                  | inl wrong ↦ reserved_offends settings b o context entries a.value o.suite a.next fault at kind keys (type_by (eqb a.value 1) (eqb a.value 2) a.value refl refl yes) refl wrong
                  | inr r ↦
                      let zeros = reserved_taken o.suite a.next r.value r.next k.0.rest r.first in
                      let typed = IsTaken-then (start b) (before ++ to_big_endian w8 a.value) a.next (reserved_text o.suite) r.next kind zeros in
                      frame_offends settings b o context entries a.value r.next fault at typed keys yes r.second
                ]
          ]
    ]

-- ---- the whole

iv_not_refused : (suite : Suite) (p : Place) (fault : Fault) (at : ℕ) → header_iv suite p ≡ Refused fault at → ⊥
unfolding header_iv
iv_not_refused Committing p fault at e = cc
iv_not_refused Uncommitted p fault at e = field_not_refused (λ x. x) 12 p fault at e

tail_not_refused : (o : Opening) (context : List ℕ) (entries : List Entry) (kind : Content) (p : Place) (fault : Fault) (at : ℕ) → after_content o context entries kind p ≡ Refused fault at → ⊥
tail_not_refused o context entries kind p fault at e =
    elim (then_is_refused (bytes (data_length o.suite) p) (after_commitment o context entries kind) fault at e) [
      | inl none ↦ field_not_refused (λ x. x) (data_length o.suite) p fault at none
      | inr a ↦ elim (then_is_refused (header_iv o.suite a.next) (after_iv o context entries kind a.value a.next.at) fault at a.second) [
        | inl none ↦ iv_not_refused o.suite a.next fault at none
        | inr i ↦ elim (then_is_refused (bytes 16 i.next) (λ tag. done (head_with o context entries kind a.value a.next.at i.value tag)) fault at i.second) [
          | inl none ↦ field_not_refused (λ x. x) 16 i.next fault at none
          | inr c ↦ not_refused (head_with o context entries kind a.value a.next.at i.value c.value) c.next fault at c.second
        ]
      ]
    ]
  where
    not_refused : (x : HeaderFields) (q : Place) (f : Fault) (n : ℕ) → Read x q ≡ Refused f n → ⊥
    not_refused x q f n e = cc

pub has_offence : (settings : Settings) (b : List ℕ) (fault : Fault) (at : ℕ) → AreBytes b → header settings (start b) ≡ Refused fault at → HasOffence settings b fault at
unfolding header opened_text keys_text
has_offence settings b fault at fits e =
    elim (then_is_refused (opening settings.uncommitted (start b)) (after_opening settings) fault at e) [
      | inl first ↦ opening_offends settings b fault at fits first
      | inr a ↦
          let opening = opening_taken settings.uncommitted (start b) a.value a.next fits a.first in
          let known : IsIdentified settings a.value = record { allowed = opening.allowed; id_len = opening.id_len } in
          elim (then_is_refused (context_field a.next) (after_context settings a.value) fault at a.second) [
            | inl second ↦ context_offends settings b a.value a.next fault at opening.taken known second
            | inr c ↦
                let context = context_taken a.next c.value c.next opening.taken.rest c.first in
                let opened : OpeningIsRead settings a.value c.value = record { identified = known; short = context.1; good = context.2 } in
                let two = IsTaken-then (start b) (opening_text a.value) a.next (sized c.value) c.next opening.taken context.0 in
                elim (then_is_refused (data_keys settings.max_keys c.next) (after_keys settings a.value c.value) fault at c.second) [
                  | inl third ↦ keys_offends settings b a.value c.value c.next fault at two opened third
                  | inr d ↦
                      let low : c.next.at + 2 ≤ latest_end = omega (arith, opening.taken.end, context.0.end, opening_short a.value opening.id_len, length-sized c.value, context.1) in
                      let keys = keys_taken settings.max_keys c.next d.value d.next context.0.rest low d.first in
                      let three = IsTaken-then (start b) (opening_text a.value ++ sized c.value) c.next (edks_text d.value) d.next two keys.taken in
                      let are : AreKeys settings a.value c.value d.value = record {
                        opened = opened;
                        count = record { some = keys.some; few = keys.few; limit = keys.limit };
                        each = All-from_recursion IsEntry d.value keys.entries;
                        end = omega (arith, three.end, keys.within);
                      } in
                      elim (then_is_refused (content_field a.value.suite settings.max_unit d.next) (after_content a.value c.value d.value) fault at d.second) [
                        | inl fourth ↦ content_offends settings b a.value c.value d.value d.next fault at three are fourth
                        | inr f ↦ absurd (tail_not_refused a.value c.value d.value f.value f.next fault at f.second)
                      ]
                ]
          ]
    ]
