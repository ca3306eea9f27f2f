-- What is extracted, by the judgement of all bytes.
use Rattle.std.proofs.Common.{◌≡◌, ◌⊎◌, ℕ, ◌+◌, ◌*◌, ◌/◌, ◌<◌, ◌≤◌, List, ◌++◌, length, drop, Option, Some, None, refl, sym, ap, subst, ◌∙◌, arith, inl, inr, append-nil, length-append, mul-le-mul_right}
use Rattle.std.proofs.Math.Nat.{div-mul-le_self}
use Rattle.std.specs.List.{concat, flat_map, range_with_len}
use Rattle.std.proofs.lemmas.Bool.{cases_lt}
use Rattle.esdk_fields.specs.declared.contents.Content.{Content}
use Rattle.esdk_fields.specs.declared.contents.Content.TheVariants.{Single, Framed}
use Rattle.esdk_fields.specs.declared.faults.Fault.{Fault}
use Rattle.esdk_fields.specs.declared.faults.Fault.TheVariants.{Truncated}
use Rattle.esdk_fields.specs.Bytes.{AreBytes}
use Rattle.esdk_fields.specs.Place.{Place, start}
use Rattle.esdk_fields.specs.Reading.{Reading, Read, Refused, Wanting}
use Rattle.esdk_fields.proofs.Bytes.{AreBytes-drop}
use Rattle.frame_codec.specs.Unit.{block_unit, unit}
use Rattle.body_format.specs.declared.verdicts.Verdict.TheVariants.{Whole}
use Rattle.body_format.specs.OneSlot.{last_in}
use Rattle.body_format.specs.Rows.{JudgedBody}
use Rattle.body_format.specs.Body.{judged_body, judged_frames}
use Rattle.body_format.specs.Table.{block_verdict, good_block, listed, tabled_block}
use Rattle.body_format.proofs.BlockTable.{block_reads, block_tabled}
use Rattle.body_format.proofs.FrameTable.{none_or_some}
use Rattle.body_format.proofs.WrittenRows.{length-rows}
use Rattle.suite_table.specs.Keys.{derived}
use Rattle.context_codec.specs.Context.{KeyValue}
use Rattle.header_codec.specs.declared.settings.Settings.{Settings}
use Rattle.header_codec.specs.Header.{HeaderValue, IsContent}
use Rattle.header_codec.specs.Table.{HeaderFields, header}
use Rattle.header_codec.proofs.Spelled.{is_spelled}
use Rattle.header_codec.proofs.Uniqueness.{some_header}
use Rattle.keyring_trait.specs.Unlocking.{Unlocking, Refuses, Unlocks}
use Rattle.message_format.specs.Judgement.{Judged, content, header_of, judged, judged_header, judged_lock, judged_reading, lock_fault, opened_as}
use Rattle.message_format.proofs.Judging.{judged_is}
use Rattle.extract_core.specs.Extract.{IsHeaderOf, body_begin}
use Rattle.extract_core.specs.Extracted.{ByteRange, Extraction, OpenBody, body_behind, extracted, extracted_body, first_slot, in_range, slot_part, slot_read, slots_taken, unit_content}
use Rattle.extract_core.specs.Laws.{BeginsWithin, EndsAsItBegins, ExtractsOfWhole, ExtractsTheContent, ExtractsWholeMessages, HeaderIsUnlocked, TakesTagForNumber, body_at}
use Rattle.extract_core.proofs.Behind.{HasOtherNumber, next_full, none_stands}
use Rattle.extract_core.proofs.Contents.{last_content, none_before, none_of_empty}
use Rattle.extract_core.proofs.Definition.{ends_at, flat_map_next, nothing_in_range, of_nothing, taken_least}
use Rattle.extract_core.proofs.Extracting.{body_left, extracted_open, head_is}
use Rattle.extract_core.proofs.FrameSlots.{FramesJudged, frames_extract, frames_judged, slots_extract, some_slots, whole_last}
use Rattle.extract_core.proofs.Front.{begins_at}
use Rattle.extract_core.proofs.GoodSlots.{open_frames, under}
use Rattle.extract_core.proofs.SlotNumbers.{slot_alone}
use Rattle.extract_core.proofs.Writing.{no_parts}

-- ---- of units

-- The range of what these units have is extracted, and where it begins says how it ends.
record IsOfUnits (b : OpenBody) (range : ByteRange) (units : List (List ℕ)) : Type 0 where
  pub part : (extracted_body b range).part ≡ in_range range 0 (concat units)
  pub ends : EndsAsItBegins b.content range units (extracted_body b range).fault

abbrev IsRangeOf : OpenBody → ByteRange → List (List ℕ) → Type 0
IsRangeOf b range units =
    extracted_body b range ≡ record { part = in_range range 0 (concat units); fault = None }

of_units : (b : OpenBody) (range : ByteRange) (units : List (List ℕ)) → IsRangeOf b range units
    → BeginsWithin b.content range units → IsOfUnits b range units
of_units b range units e within = record {
  part = ap (λ (x : Extraction). x.part) e;
  ends = subst (EndsAsItBegins b.content range units) (sym (ap (λ (x : Extraction). x.fault) e))
      within;
}

-- an empty range is of any units
none_of_units : (b : OpenBody) (range : ByteRange) (units : List (List ℕ)) → range.count ≡ 0
    → IsRangeOf b range units
none_of_units b range units none =
    of_nothing b range none
    ∙ ap (λ (l : List ℕ). record { part = l; fault = None })
    (sym (none_of_empty range (concat units) none))

-- ---- of a whole body of frames

-- how long the content is: each frame but the last one is full
content_length : (n : ℕ) (b : OpenBody) (j : JudgedBody) (f : FramesJudged n b j)
    → length (concat j.units) ≡ f.last * n + length (unit_content (slot_read b f.last))
content_length n b j f =
    let g : ℕ → List ℕ = λ k. unit_content (slot_read b k) in
    let before : List ℕ = flat_map g (range_with_len 0 f.last) in
    let from_none : 0 + f.last ≡ f.last = omega arith in
    let joined : length (concat j.units) ≡ length before + length (g f.last) =
    ap length (f.content ∙ flat_map_next g 0 f.last ∙ ap (λ (k : ℕ). before ++ g k) from_none)
    ∙ length-append before (g f.last) in
    let rows : length before ≡ f.last * n =
    length-rows g n 0 f.last (λ k l h. (f.slots.good k (omega (arith, h))).1.0) in
    omega (arith, joined, rows)

-- another number in a slot behind the last one is the end of a tag
tag_taken : (n last size : ℕ) (bytes : List ℕ) (range : ByteRange) (units : List (List ℕ))
    → size ≤ n → last < range.at / n → length bytes ≡ last * (n + 32) + size + 40
    → length units ≡ last + 1 → length (concat units) ≡ last * n + size → (fault : Fault)
    → (fault ≡ Truncated)
    ⊎ HasOtherNumber (range.at / n + 1) (drop (range.at / n * (n + 32)) bytes) fault
    → (fault ≡ Truncated) ⊎ TakesTagForNumber (Framed n) range units fault
tag_taken n last size bytes range units short behind long many all fault (inl cut) = inl cut
tag_taken n last size bytes range units short behind long many all fault (inr other) =
    let at = next_full n last (range.at / n) size bytes short behind long other.long in
    let wide : length units * n ≡ (last + 1) * n = ap (λ (w : ℕ). w * n) many in
    let on : (last + 1) * n ≡ last * n + n = omega arith in
    inr (record {
      got = other.got;
      is = other.is;
      next = omega (arith, at.0, many);
      full = omega (arith, at.1, wide, on, all);
    })

-- where the range begins behind the last slot
frames_behind : (n : ℕ) (max_unit : Option ℕ) (key id bytes : List ℕ) (j : JudgedBody)
    (range : ByteRange) → 1 ≤ n → 1 ≤ range.count
    → (f : FramesJudged n (open_frames n max_unit key id bytes) j) → j.verdict ≡ Whole
    → f.last < range.at / n → IsOfUnits (open_frames n max_unit key id bytes) range j.units
frames_behind n max_unit key id bytes j range some count f whole behind =
    let b : OpenBody = open_frames n max_unit key id bytes in
    let k : ℕ = range.at / n in
    let text : List ℕ = unit_content (slot_read b f.last) in
    let size = content_length n b j f in
    let many : length j.units ≡ f.last + 1 = omega (arith, f.units, f.whole whole) in
    let up : (f.last + 1) * n ≤ k * n = mul-le-mul_right n (omega (arith, behind)) in
    let on : (f.last + 1) * n ≡ f.last * n + n = omega arith in
    let low : k * n ≤ range.at = div-mul-le_self range.at n in
    let no = none_stands n max_unit key id bytes f.last k (length text) f.slots.short behind
    (f.long whole) in
    let e = ends_at b range k count
    (record { order = omega arith; each = λ i low high. absurd (omega (arith, low, high)) })
    (omega (arith, some_slots n range some count)) no.other in
    record {
      part = ap (λ (x : Extraction). x.part) e
          ∙ ap (λ (l : List ℕ). l ++ slot_part b range k) (no_parts b range)
          ∙ nothing_in_range range (k * n) (unit_content (slot_read b k)) no.empty
          ∙ sym (none_before range 0 (concat j.units)
          (omega (arith, size, f.slots.short, up, on, low)));
      ends = subst (EndsAsItBegins (Framed n) range j.units)
          (sym (ap (λ (x : Extraction). x.fault) e ∙ no.is)) (
            (count, omega (arith, many, behind)),
            tag_taken n f.last (length text) bytes range j.units f.slots.short behind (f.long whole) many
                size no.fault no.because,
          );
    }

frames_whole : (n : ℕ) (max_unit : Option ℕ) (key id bytes : List ℕ) (j : JudgedBody)
    (range : ByteRange) → 1 ≤ n → 1 ≤ range.count
    → FramesJudged n (open_frames n max_unit key id bytes) j → j.verdict ≡ Whole
    → IsOfUnits (open_frames n max_unit key id bytes) range j.units
frames_whole n max_unit key id bytes j range some count f whole =
    let b : OpenBody = open_frames n max_unit key id bytes in
    elim (cases_lt f.last (range.at / n)) [
      | inl behind ↦ frames_behind n max_unit key id bytes j range some count f whole behind
      | inr order ↦ of_units b range j.units
          (slots_extract n (λ k. unit_content (slot_read b k)) b f.last range refl some count f.slots
          order (λ ends. f.sound (f.whole whole))
          ∙ ap (λ (l : List ℕ). record { part = in_range range 0 l; fault = None })
          (sym f.content))
          (inr (omega (arith, order, f.whole whole)))
    ]

-- ---- the single block

abbrev open_block : Option ℕ → List ℕ → List ℕ → List ℕ → OpenBody
open_block max_unit key id bytes = record { content = Single; max_unit = max_unit; key = key; id = id; bytes = bytes }

block_same : (max_unit : Option ℕ) (key id : List ℕ) (p : Place) → unit Single max_unit key id (0 + 1) p ≡ block_unit max_unit key id p
unfolding block_unit
block_same max_unit key id p = refl

block_there : (max_unit : Option ℕ) (key id bytes : List ℕ) → slot_read (open_block max_unit key id bytes) 0 ≡ block_unit max_unit key id (start bytes)
block_there max_unit key id bytes = slot_alone (open_block max_unit key id bytes) 0 (omega arith) ∙ block_same max_unit key id (start bytes)

block_good : (max_unit : Option ℕ) (key id bytes text : List ℕ) (range : ByteRange) → 1 ≤ range.count → good_block max_unit key id bytes ≡ Some text
    → extracted_body (open_block max_unit key id bytes) range ≡ record { part = in_range range 0 (concat (listed (good_block max_unit key id bytes))); fault = None }
block_good max_unit key id bytes text range count good =
    let b : OpenBody = open_block max_unit key id bytes in
    let t = block_reads max_unit key id bytes 0 in
    let c = last_content (slot_read b 0) text (ap last_in (block_there max_unit key id bytes) ∙ t.last ∙ good) in
    ends_at b range 0 count (record { order = omega arith; each = λ k low h. absurd (omega (arith, h)) }) (omega arith) c.0
    ∙ ap (λ (o : Option Fault). record { part = in_range range 0 (unit_content (slot_read b 0)); fault = o }) c.1.1
    ∙ ap (λ (l : List ℕ). record { part = in_range range 0 l; fault = None })
    (c.1.0 ∙ sym (append-nil text) ∙ ap (λ (o : Option (List ℕ)). concat (listed o)) (sym good))

block_taken : (max_unit : Option ℕ) (key id bytes : List ℕ) (range : ByteRange) → 1 ≤ range.count
    → 0 + slots_taken (open_block max_unit key id bytes) range ≤ length (listed (good_block max_unit key id bytes))
    → extracted_body (open_block max_unit key id bytes) range ≡ record { part = in_range range 0 (concat (listed (good_block max_unit key id bytes))); fault = None }
block_taken max_unit key id bytes range count few =
    let least = taken_least (open_block max_unit key id bytes) range 0 (record { order = omega arith; each = λ k low h. absurd (omega (arith, h)) }) (omega arith) in
    elim (none_or_some (good_block max_unit key id bytes)) [
      | inl none ↦ absurd (omega (arith, least, few, ap (λ (o : Option (List ℕ)). length (listed o)) none))
      | inr some ↦ block_good max_unit key id bytes some.0 range count some.1
    ]

block_whole : (max_unit : Option ℕ) (key id bytes : List ℕ) (range : ByteRange) → 1 ≤ range.count
    → block_verdict max_unit key id bytes ≡ Whole
    → IsOfUnits (open_block max_unit key id bytes) range (listed (good_block max_unit key id bytes))
block_whole max_unit key id bytes range count whole =
    let t = block_reads max_unit key id bytes 0 in
    let found = whole_last (block_unit max_unit key id (start bytes)) (t.verdict ∙ whole) in
    let good = sym t.last ∙ found.1 in
    of_units (open_block max_unit key id bytes) range (listed (good_block max_unit key id bytes))
    (block_good max_unit key id bytes found.0 range count good)
    (inr (omega (arith, ap (λ (o : Option (List ℕ)). length (listed o)) good)))

-- ---- a body

abbrev open_body : Content → Option ℕ → List ℕ → List ℕ → List ℕ → OpenBody
open_body content max_unit key id bytes = record { content = content; max_unit = max_unit; key = key; id = id; bytes = bytes }

block_is : (max_unit : Option ℕ) (key id : List ℕ) (p : Place) → judged_body Single max_unit key id p ≡ record { units = listed (good_block max_unit key id p.left); verdict = block_verdict max_unit key id p.left }
unfolding judged_body tabled_block
block_is max_unit key id p = block_tabled max_unit key id p

frames_are : (n : ℕ) (max_unit : Option ℕ) (key id : List ℕ) (p : Place) → judged_frames n (under key id) p ≡ judged_body (Framed n) max_unit key id p
unfolding judged_body
frames_are n max_unit key id p = refl

frames_of : (n : ℕ) (max_unit : Option ℕ) (key id : List ℕ) (p : Place) → AreBytes p.left → FramesJudged n (open_body (Framed n) max_unit key id p.left) (judged_body (Framed n) max_unit key id p)
frames_of n max_unit key id p fits = subst (FramesJudged n (open_frames n max_unit key id p.left)) (frames_are n max_unit key id p) (frames_judged n max_unit key id p fits)

some_extract : (content : Content) (max_unit : Option ℕ) (key id : List ℕ) (p : Place)
    (range : ByteRange) → IsContent content → AreBytes p.left → 1 ≤ range.count
    → first_slot content range + slots_taken (open_body content max_unit key id p.left) range
    ≤ length (judged_body content max_unit key id p).units
    → IsRangeOf (open_body content max_unit key id p.left) range
    (judged_body content max_unit key id p).units
some_extract Single max_unit key id p range is fits count few =
    let e = block_is max_unit key id p in
    let b : OpenBody = open_block max_unit key id p.left in
    subst (λ (j : JudgedBody). IsRangeOf b range j.units) (sym e)
    (block_taken max_unit key id p.left range count
    (subst (λ (j : JudgedBody). 0 + slots_taken b range ≤ length j.units) e few))
some_extract (Framed n) max_unit key id p range is fits count few =
    frames_extract n (open_body (Framed n) max_unit key id p.left)
    (judged_body (Framed n) max_unit key id p) range refl is.0 count
    (frames_of n max_unit key id p fits) few

body_extract : (content : Content) (max_unit : Option ℕ) (key id : List ℕ) (p : Place)
    (range : ByteRange) → IsContent content → AreBytes p.left
    → first_slot content range + slots_taken (open_body content max_unit key id p.left) range
    ≤ length (judged_body content max_unit key id p).units
    → IsRangeOf (open_body content max_unit key id p.left) range
    (judged_body content max_unit key id p).units
body_extract content max_unit key id p range is fits few =
    elim (cases_lt 0 range.count) [
      | inl some ↦ some_extract content max_unit key id p range is fits some few
      | inr none ↦ none_of_units (open_body content max_unit key id p.left) range
          (judged_body content max_unit key id p).units (omega (arith, none))
    ]

some_whole : (content : Content) (max_unit : Option ℕ) (key id : List ℕ) (p : Place)
    (range : ByteRange) → IsContent content → AreBytes p.left → 1 ≤ range.count
    → (judged_body content max_unit key id p).verdict ≡ Whole
    → IsOfUnits (open_body content max_unit key id p.left) range
    (judged_body content max_unit key id p).units
some_whole Single max_unit key id p range is fits count whole =
    let e = block_is max_unit key id p in
    subst (λ (j : JudgedBody). IsOfUnits (open_block max_unit key id p.left) range j.units) (sym e)
    (block_whole max_unit key id p.left range count
    (sym (ap (λ (j : JudgedBody). j.verdict) e) ∙ whole))
some_whole (Framed n) max_unit key id p range is fits count whole =
    frames_whole n max_unit key id p.left (judged_body (Framed n) max_unit key id p) range is.0 count
    (frames_of n max_unit key id p fits) whole

body_whole : (content : Content) (max_unit : Option ℕ) (key id : List ℕ) (p : Place)
    (range : ByteRange) → IsContent content → AreBytes p.left
    → (judged_body content max_unit key id p).verdict ≡ Whole
    → IsOfUnits (open_body content max_unit key id p.left) range
    (judged_body content max_unit key id p).units
body_whole content max_unit key id p range is fits whole =
    let b : OpenBody = open_body content max_unit key id p.left in
    let units : List (List ℕ) = (judged_body content max_unit key id p).units in
    elim (cases_lt 0 range.count) [
      | inl some ↦ some_whole content max_unit key id p range is fits some whole
      | inr none ↦ (let empty : range.count ≡ 0 = omega (arith, none) in
          of_units b range units (none_of_units b range units empty) (inl empty))
    ]

-- ---- a message

abbrev body_of_header : Settings → HeaderValue → List ℕ → Place → JudgedBody
body_of_header settings h key end = judged_body h.content settings.max_unit (derived h.suite key h.message_id) h.message_id end

judged_open : (b : List ℕ) (settings : Settings) (answer : Unlocking) (h : HeaderValue) (key : List ℕ) (i : HeaderIsUnlocked b settings answer h key)
    → judged b settings answer ≡ opened_as (body_of_header settings h key i.header.end)
judged_open b settings answer h key i =
    judged_is b settings answer (Read i.header.begins.parts i.header.end) i.header.begins.read
    ∙ ap (λ (a : Unlocking). judged_header settings (header_of b i.header.begins.parts) i.header.end a) i.unlocks
    ∙ ap (λ (x : HeaderValue). judged_header settings x i.header.end (Unlocks i.whole i.only key)) (head_is settings h b i.header)
    ∙ ap (judged_lock settings h key i.header.end) i.sound

extracted_is_open : (b : List ℕ) (settings : Settings) (answer : Unlocking) (range : ByteRange) (h : HeaderValue) (key : List ℕ) (i : HeaderIsUnlocked b settings answer h key)
    → extracted b settings answer range ≡ extracted_body (body_behind settings h key i.header.end.left) range
extracted_is_open b settings answer range h key i =
    ap (λ (a : Unlocking). extracted b settings a range) i.unlocks
    ∙ extracted_open b settings i.whole i.only key range h i.header i.sound
    ∙ ap (λ (l : List ℕ). extracted_body (body_behind settings h key l) range) (sym (body_left b settings h i.header))

end_bytes : (b : List ℕ) (settings : Settings) (h : HeaderValue) (is : IsHeaderOf settings h b) → AreBytes b → AreBytes is.end.left
end_bytes b settings h is fits = subst AreBytes (sym (body_left b settings h is)) (AreBytes-drop (body_begin h) b fits)

pub extracts_content : ExtractsTheContent
extracts_content b settings answer range h key fits i few =
    let j = judged_open b settings answer h key i in
    let left = body_left b settings h i.header in
    let end : Place = i.header.end in
    let few_there : first_slot h.content range + slots_taken (body_behind settings h key end.left) range ≤ length (body_of_header settings h key end).units =
    subst (λ (l : List ℕ). first_slot h.content range + slots_taken (body_behind settings h key l) range ≤ length (body_of_header settings h key end).units) (sym left)
    (subst (λ (x : Judged). first_slot h.content range + slots_taken (body_at b settings h key) range ≤ length x.units) j few) in
    extracted_is_open b settings answer range h key i
    ∙ body_extract h.content settings.max_unit (derived h.suite key h.message_id) h.message_id end range
    (is_spelled settings b h end fits i.header.begins).body.content (end_bytes b settings h i.header fits) few_there
    ∙ ap (λ (x : Judged). record { part = in_range range 0 (content x); fault = None }) (sym j)

whole_open : (b : List ℕ) (settings : Settings) (answer : Unlocking) (range : ByteRange)
    (h : HeaderValue) (key : List ℕ) → AreBytes b → HeaderIsUnlocked b settings answer h key
    → (judged b settings answer).verdict ≡ Whole → ExtractsOfWhole b settings answer range
whole_open b settings answer range h key fits i whole =
    let j = judged_open b settings answer h key i in
    let e = extracted_is_open b settings answer range h key i in
    let w = body_whole h.content settings.max_unit (derived h.suite key h.message_id) h.message_id
    i.header.end range (is_spelled settings b h i.header.end fits i.header.begins).body.content
    (end_bytes b settings h i.header fits) (sym (ap (λ (x : Judged). x.verdict) j) ∙ whole) in
    record {
      header = h;
      stands = i.header;
      part = ap (λ (x : Extraction). x.part) e ∙ w.part
          ∙ ap (λ (x : Judged). in_range range 0 (content x)) (sym j);
      ends = subst (λ (x : Judged). EndsAsItBegins h.content range x.units
          (extracted b settings answer range).fault) (sym j)
          (subst (EndsAsItBegins h.content range (body_of_header settings h key i.header.end).units)
          (sym (ap (λ (x : Extraction). x.fault) e)) w.ends);
    }

-- a whole message has a header that the answer unlocks
record SomeUnlocked (b : List ℕ) (settings : Settings) (answer : Unlocking) : Type 0 where
  pub header : HeaderValue
  pub key : List ℕ
  pub is : HeaderIsUnlocked b settings answer header key

by_lock : (b : List ℕ) (settings : Settings) (parts : HeaderFields) (end : Place) (whole only : List KeyValue) (key : List ℕ) (o : Option Fault) → header settings (start b) ≡ Read parts end
    → lock_fault (header_of b parts) only key ≡ o → (judged_lock settings (header_of b parts) key end o).verdict ≡ Whole → SomeUnlocked b settings (Unlocks whole only key)
by_lock b settings parts end whole only key (Some fault) e lock sound = absurd cc
by_lock b settings parts end whole only key None e lock sound =
    let found = some_header settings b parts end e in
    let h : HeaderValue = found.0 in
    let both_read : Read found.1.parts end ≡ Read parts end = sym found.1.read ∙ e in
    let same : found.1.parts ≡ parts = cc in
    let is : IsHeaderOf settings h b = record { end = end; begins = found.1; begin = begins_at settings b h end found.1 } in
    record {
      header = h;
      key = key;
      is = record {
        header = is;
        whole = whole;
        only = only;
        unlocks = refl;
        sound = ap (λ (x : HeaderValue). lock_fault x only key) (sym (head_is settings h b is)) ∙ ap (λ (p : HeaderFields). lock_fault (header_of b p) only key) same ∙ lock;
      };
    }

by_answer : (b : List ℕ) (settings : Settings) (parts : HeaderFields) (end : Place) (answer : Unlocking) → header settings (start b) ≡ Read parts end
    → (judged_header settings (header_of b parts) end answer).verdict ≡ Whole → SomeUnlocked b settings answer
by_answer b settings parts end (Refuses fault) e sound = absurd cc
by_answer b settings parts end (Unlocks whole only key) e sound = by_lock b settings parts end whole only key (lock_fault (header_of b parts) only key) e refl sound

by_reading : (b : List ℕ) (settings : Settings) (answer : Unlocking) (r : Reading HeaderFields) → header settings (start b) ≡ r → (judged_reading b settings answer r).verdict ≡ Whole → SomeUnlocked b settings answer
by_reading b settings answer (Read parts end) e sound = by_answer b settings parts end answer e sound
by_reading b settings answer (Refused fault at) e sound = absurd cc
by_reading b settings answer Wanting e sound = absurd cc

pub extracts_whole : ExtractsWholeMessages
extracts_whole b settings answer range fits whole =
    let found = by_reading b settings answer (header settings (start b)) refl (sym (ap (λ (x : Judged). x.verdict) (judged_is b settings answer (header settings (start b)) refl)) ∙ whole) in
    whole_open b settings answer range found.header found.key fits found.is whole
