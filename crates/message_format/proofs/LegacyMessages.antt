-- A message of version 1.0 is judged whole where that is allowed, and refused where it isn't.
use Rattle.std.proofs.Common.{◌≡◌, ℕ, ◌+◌, ◌≤◌, Bool, true, false, List, [], ◌∷◌, ◌++◌, length, Option, None, Some, refl, ap, ◌∙◌, arith}
use Rattle.std.specs.Prelude.{IfSome}
use Rattle.std.proofs.lemmas.Bool.{le-ltb}
use Rattle.esdk_fields.specs.declared.contents.Content.{Content}
use Rattle.esdk_fields.specs.declared.contents.Content.TheVariants.{Single, Framed}
use Rattle.esdk_fields.specs.declared.faults.Fault.TheVariants as faults
use Rattle.esdk_fields.specs.Numbers.{to_big_endian, from_big_endian}
use Rattle.esdk_fields.specs.Place.{Place, start}
use Rattle.esdk_fields.specs.Reading.{Reading, Refused, then_read}
use Rattle.esdk_fields.proofs.Fronts.{fault_stays}
use Rattle.context_codec.specs.Context.{KeyValue}
use Rattle.context_codec.specs.Parts.{stored_of, only_of}
use Rattle.context_codec.proofs.Parts.{IsContext-stored_of}
use Rattle.edk_codec.specs.Entry.{Entry}
use Rattle.header_codec.specs.declared.settings.Settings.{Settings}
use Rattle.header_codec.specs.Header.{Opening, HeaderValue, IsContent, latest_end, frame_length, authentication_text, header_text, opening_text, version_text, type_text}
use Rattle.header_codec.specs.Table.{BeginsWith, header, opening, identity, type_field, suite_field}
use Rattle.header_codec.specs.Written.{AreParts, HeaderParts, legacy_parts, body_of_parts, header_value, keys_end, end_refusal}
use Rattle.header_codec.proofs.Order.{IsSequential-header}
use Rattle.header_codec.proofs.Steps.{after_opening}
use Rattle.header_codec.proofs.WrittenHeaders.{written_is_read}
use Rattle.suite_table.specs.declared.suite.Suite.TheVariants.{Uncommitted}
use Rattle.suite_table.specs.Suites.{suite_id}
use Rattle.suite_table.specs.Keys.{derived}
use Rattle.esdk_fields.proofs.Limited.{limit_within}
use Rattle.keyring_trait.specs.Unlocking.{Unlocking, Unlocks}
use Rattle.body_format.specs.declared.verdicts.Verdict.TheVariants.{Whole, Faulty}
use Rattle.body_format.specs.Rows.{JudgedBody}
use Rattle.body_format.specs.Body.{judged_body}
use Rattle.body_format.proofs.BodyLaws.{framed_whole, block_whole}
use Rattle.message_format.specs.Judgement.{locked, opened_as, judged_header, lock_fault, judged}
use Rattle.message_format.specs.Legacy.{Legacy, legacy_raw, legacy_tag, legacy_body, legacy_message, legacy_units, unit_length, TextHasRoom, IsLegacyWritable, IsLegacyAllowed}
use Rattle.message_format.proofs.Judging.{judged_refused, judged_read, judged_opened}
use Rattle.message_format.proofs.Lines.{lock_opens}
use Rattle.message_format.proofs.WrittenHeads.{length-header_tag, header_found}

-- ---- the header

abbrev parts_of : Legacy → HeaderParts
parts_of m = legacy_parts m.id (stored_of m.required m.context) m.entries m.content

abbrev written : Legacy → HeaderValue
written m = header_value (parts_of m) m.iv (legacy_tag m)

parts_are : (m : Legacy) (text : List ℕ) → IsLegacyWritable m text → AreParts (parts_of m)
parts_are m text w = record {
  id_len = w.id_long;
  is_context = IsContext-stored_of m.required m.context w.context;
  some = w.entries_some;
  few = w.entries_few;
  each = w.entries_are;
  content = w.cut;
  commitment_len = refl;
}

in_time : (o : Opening) (stored : List KeyValue) (entries : List Entry) → keys_end o stored entries ≤ latest_end → end_refusal o stored entries ≡ None
in_time o stored entries h = rw (le-ltb latest_end (keys_end o stored entries) h) refl

-- the frame length is limited where there are frames
frame_within : (max_unit : Option ℕ) (content : Content) (text : List ℕ) → IfSome max_unit (λ most. unit_length content text ≤ most) → IfSome max_unit (λ most. frame_length content ≤ most)
frame_within None content text h = tt
frame_within (Some most) Single text h = omega arith
frame_within (Some most) (Framed size) text h = h

-- where the body begins, and what stands there
abbrev body_place : Legacy → List ℕ → Place
body_place m text = record { at = length (legacy_raw m) + length (authentication_text (written m)); left = legacy_body m m.content text }

begins : (m : Legacy) (text : List ℕ) (settings : Settings) → IsLegacyWritable m text → IsLegacyAllowed settings m text
    → BeginsWith settings (legacy_message m text) (written m) (body_place m text)
unfolding legacy_message authentication_text
begins m text settings w allowed =
    written_is_read settings (parts_of m) m.iv (legacy_tag m) (legacy_body m m.content text) (parts_are m text w) w.iv_long
    (length-header_tag Uncommitted m.iv (legacy_raw m) (only_of m.required m.context) m.key m.id) allowed.allowed
    (in_time (parts_of m).opening (stored_of m.required m.context) m.entries w.entries_end) allowed.max_keys (frame_within settings.max_unit m.content text allowed.max_unit)

-- it commits to no key, and its tag is right
opens : (m : Legacy) → lock_fault (written m) (only_of m.required m.context) m.key ≡ None
opens m = lock_opens (written m) (only_of m.required m.context) m.key (λ e. absurd cc) refl

-- ---- the body

abbrev whole : List (List ℕ) → JudgedBody
whole units = record { units = units; verdict = Whole }

body_whole : (m : Legacy) (content : Content) (text : List ℕ) (max_unit : Option ℕ) (at : ℕ) → IsContent content → TextHasRoom content text → length m.block_iv ≡ 12
    → IfSome max_unit (λ most. unit_length content text ≤ most)
    → judged_body content max_unit (derived Uncommitted m.key m.id) m.id (record { at = at; left = legacy_body m content text }) ≡ whole (legacy_units content text)
body_whole m Single text max_unit at is short iv limit = block_whole max_unit (derived Uncommitted m.key m.id) m.id m.block_iv text at iv short (limit_within max_unit (length text) limit)
body_whole m (Framed size) text max_unit at is short iv limit =
    framed_whole size (record { key = derived Uncommitted m.key m.id; id = m.id }) text max_unit at (record { some = is.0; narrow = is.1; few = short })

-- ---- the message

pub legacy_is_whole : (m : Legacy) (text : List ℕ) (settings : Settings) (answered : List KeyValue) → IsLegacyWritable m text → IsLegacyAllowed settings m text
    → judged (legacy_message m text) settings (Unlocks answered (only_of m.required m.context) m.key) ≡ opened_as (whole (legacy_units m.content text))
legacy_is_whole m text settings answered w allowed =
    let b = legacy_message m text in
    let h = written m in
    let body = body_place m text in
    let answer = Unlocks answered (only_of m.required m.context) m.key in
    let found = begins m text settings w allowed in
    judged_read b settings answer found.parts body found.read
    ∙ ap (λ (h : HeaderValue). judged_header settings h body answer) (header_found settings b h body found)
    ∙ judged_opened settings h body answered (only_of m.required m.context) m.key (opens m)
    ∙ ap opened_as (body_whole m m.content text settings.max_unit body.at w.cut w.short w.block_iv_long allowed.max_unit)

-- ---- where it isn't allowed

-- version, type and suite
abbrev front : List ℕ
front = 1 ∷ 128 ∷ 1 ∷ 120 ∷ []

opening_refused : (allowed : Bool) → allowed ≡ false → opening allowed (start front) ≡ Refused (faults.Uncommitted (suite_id Uncommitted)) 4
unfolding opening identity type_field suite_field from_big_endian
opening_refused true e = absurd cc
opening_refused false e = refl

header_refused : (settings : Settings) → settings.uncommitted ≡ false → header settings (start front) ≡ Refused (faults.Uncommitted (suite_id Uncommitted)) 4
unfolding header
header_refused settings e = ap (λ (r : Reading Opening). then_read r (after_opening settings)) (opening_refused settings.uncommitted e)

begins_so : (m : Legacy) (text : List ℕ) → (more : List ℕ) × (legacy_message m text ≡ front ++ more)
unfolding legacy_message body_of_parts header_text opening_text version_text type_text to_big_endian
begins_so m text = (_, refl)

pub legacy_is_forbidden : (m : Legacy) (text : List ℕ) (settings : Settings) (answer : Unlocking) → settings.uncommitted ≡ false
    → judged (legacy_message m text) settings answer ≡ locked (Faulty (faults.Uncommitted (suite_id Uncommitted)))
legacy_is_forbidden m text settings answer forbidden =
    let so = begins_so m text in
    ap (λ (b : List ℕ). judged b settings answer) so.1
    ∙ judged_refused (front ++ so.0) settings answer (faults.Uncommitted (suite_id Uncommitted)) 4
    (fault_stays (header settings) front so.0 (faults.Uncommitted (suite_id Uncommitted)) 4 (IsSequential-header settings) (header_refused settings forbidden))
