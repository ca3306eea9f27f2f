-- In which slots the text of a whole message stands.
use Rattle.std.proofs.Common.{◌≡◌, ◌∙◌, ℕ, ◌+◌, ◌*◌, ◌/◌, ◌<◌, ◌≤◌, List, [], ◌∷◌, ◌++◌, length, Option, Some, None, refl, sym, ap, subst, arith, length-append, mul-le-mul_right, inl, inr}
use Rattle.std.proofs.Math.Nat.{div-mul-le_self}
use Rattle.std.proofs.lemmas.Bool.{cases_lt}
use Rattle.std.specs.List.{concat, flat_map, range_with_len}
use Rattle.esdk_fields.specs.Bytes.{AreBytes}
use Rattle.esdk_fields.specs.declared.contents.Content.{Content}
use Rattle.esdk_fields.specs.declared.contents.Content.TheVariants.{Single, Framed}
use Rattle.esdk_fields.specs.declared.faults.Fault.{Fault}
use Rattle.esdk_fields.specs.Place.{Place}
use Rattle.esdk_fields.specs.Reading.{Read}
use Rattle.esdk_fields.proofs.Bytes.{AreBytes-drop}
use Rattle.header_codec.specs.declared.settings.Settings.{Settings}
use Rattle.header_codec.specs.Header.{HeaderValue}
use Rattle.keyring_trait.specs.Unlocking.{Unlocking, Refuses, Unlocks}
use Rattle.body_format.specs.declared.verdicts.Verdict.TheVariants.{Whole}
use Rattle.body_format.specs.Body.{judged_body, judged_frames}
use Rattle.body_format.specs.Rows.{JudgedBody}
use Rattle.body_format.proofs.WrittenRows.{length-rows}
use Rattle.suite_table.specs.Keys.{derived}
use Rattle.message_format.specs.Judgement.{Judged, content, judged, judged_header, judged_lock, lock_fault}
use Rattle.message_format.proofs.Judging.{judged_is}
use Rattle.extract_core.specs.Extract.{IsHeaderOf, body_begin}
use Rattle.extract_core.specs.Extracted.{ByteRange, OpenBody, first_slot, slot_read, unit_content}
use Rattle.extract_core.proofs.Definition.{flat_map_next}
use Rattle.extract_core.proofs.Extracting.{body_left, head_is}
use Rattle.extract_core.proofs.FrameSlots.{FramesJudged, frames_judged}
use Rattle.extract_core.proofs.GoodSlots.{open_frames, under}

-- The slots of these units, of one width, have room for their bytes.
abbrev FitsSlots : Content → List (List ℕ) → Type 0
FitsSlots Single units = 1 ≤ length (concat units) → 1 ≤ length units
FitsSlots (Framed n) units = length (concat units) ≤ length units * n

-- ---- a body of frames

frames_fit : (n : ℕ) (b : OpenBody) (j : JudgedBody) → FramesJudged n b j → j.verdict ≡ Whole → length (concat j.units) ≤ length j.units * n
frames_fit n b j f whole =
    let g : ℕ → List ℕ = λ k. unit_content (slot_read b k) in
    let before : List ℕ = flat_map g (range_with_len 0 f.last) in
    let from_none : 0 + f.last ≡ f.last = omega arith in
    let joined : length (concat j.units) ≡ length before + length (g f.last) =
    ap length (f.content ∙ flat_map_next g 0 f.last ∙ ap (λ (k : ℕ). before ++ g k) from_none) ∙ length-append before (g f.last) in
    let rows : length before ≡ f.last * n = length-rows g n 0 f.last (λ k low high. (f.slots.good k (omega (arith, high))).1.0) in
    let many : length j.units ≡ f.last + 1 = omega (arith, f.units, f.whole whole) in
    let wide : length j.units * n ≡ (f.last + 1) * n = ap (λ (w : ℕ). w * n) many in
    let on : (f.last + 1) * n ≡ f.last * n + n = omega arith in
    omega (arith, joined, rows, f.slots.short, wide, on)

frames_are : (n : ℕ) (max_unit : Option ℕ) (key id : List ℕ) (p : Place) → judged_frames n (under key id) p ≡ judged_body (Framed n) max_unit key id p
unfolding judged_body
frames_are n max_unit key id p = refl

body_fits : (content : Content) (max_unit : Option ℕ) (key id : List ℕ) (p : Place) → AreBytes p.left → (judged_body content max_unit key id p).verdict ≡ Whole
    → FitsSlots content (judged_body content max_unit key id p).units
body_fits Single max_unit key id p are whole = units_some (judged_body Single max_unit key id p).units
  where
    units_some : (units : List (List ℕ)) → 1 ≤ length (concat units) → 1 ≤ length units
    units_some [] some = absurd (omega (arith, some))
    units_some (x ∷ xs) some = omega arith
body_fits (Framed n) max_unit key id p are whole =
    let is = frames_are n max_unit key id p in
    subst (λ (j : JudgedBody). length (concat j.units) ≤ length j.units * n) is
    (frames_fit n (open_frames n max_unit key id p.left) (judged_frames n (under key id) p) (frames_judged n max_unit key id p are) (ap (λ (j : JudgedBody). j.verdict) is ∙ whole))

-- ---- a message

lock_fits : (settings : Settings) (h : HeaderValue) (key : List ℕ) (p : Place) (fault : Option Fault) → AreBytes p.left → (judged_lock settings h key p fault).verdict ≡ Whole
    → FitsSlots h.content (judged_lock settings h key p fault).units
lock_fits settings h key p (Some fault) are whole = absurd (cc whole)
lock_fits settings h key p None are whole = body_fits h.content settings.max_unit (derived h.suite key h.message_id) h.message_id p are whole

header_fits : (settings : Settings) (h : HeaderValue) (p : Place) (answer : Unlocking) → AreBytes p.left → (judged_header settings h p answer).verdict ≡ Whole
    → FitsSlots h.content (judged_header settings h p answer).units
header_fits settings h p (Refuses fault) are whole = absurd (cc whole)
header_fits settings h p (Unlocks context only key) are whole = lock_fits settings h key p (lock_fault h only key) are whole

message_fits : (b : List ℕ) (settings : Settings) (answer : Unlocking) (h : HeaderValue) (is : IsHeaderOf settings h b) → AreBytes b → (judged b settings answer).verdict ≡ Whole
    → FitsSlots h.content (judged b settings answer).units
message_fits b settings answer h is are whole =
    let same : judged b settings answer ≡ judged_header settings h is.end answer =
    judged_is b settings answer (Read is.begins.parts is.end) is.begins.read ∙ ap (λ (x : HeaderValue). judged_header settings x is.end answer) (head_is settings h b is) in
    let left : AreBytes is.end.left = subst AreBytes (sym (body_left b settings h is)) (AreBytes-drop (body_begin h) b are) in
    subst (λ (j : Judged). FitsSlots h.content j.units) (sym same)
    (header_fits settings h is.end answer left (sym (ap (λ (j : Judged). j.verdict) same) ∙ whole))

-- ---- where a range begins

-- a byte of the text stands in the slot of one of the units
slot_of : (c : Content) (range : ByteRange) (units : List (List ℕ)) → FitsSlots c units → range.at < length (concat units) → first_slot c range < length units
slot_of Single range units fits within = fits (omega (arith, within))
slot_of (Framed n) range units fits within = elim (cases_lt (range.at / n) (length units)) [
  | inl before ↦ before
  | inr behind ↦
      (let up : length units * n ≤ range.at / n * n = mul-le-mul_right n behind in
      absurd (omega (arith, up, div-mul-le_self range.at n, fits, within)))
]

pub begins_within : (b : List ℕ) (settings : Settings) (answer : Unlocking) (h : HeaderValue) (range : ByteRange) → IsHeaderOf settings h b → AreBytes b → (judged b settings answer).verdict ≡ Whole
    → range.at < length (content (judged b settings answer)) → first_slot h.content range < length (judged b settings answer).units
begins_within b settings answer h range is are whole within = slot_of h.content range (judged b settings answer).units (message_fits b settings answer h is are whole) within
