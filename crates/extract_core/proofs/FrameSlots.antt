-- The slots of a body of frames, by the judgement of all its bytes.
use Rattle.std.proofs.Common.{◌≡◌, ℕ, ◌+◌, ◌-◌, ◌*◌, ◌/◌, ◌<◌, ◌≤◌, true, false, List, [], ◌++◌, length, Option, Some, None, refl, sym, ap, subst, ◌∙◌, arith, inl, inr, append-nil, length-append, mul-le-mul_right}
use Rattle.std.proofs.Math.Nat.{div-mul-le_self, le-div_iff_mul-le, lt-div-mul-add}
use Rattle.std.specs.List.{concat, flat_map, range_with_len}
use Rattle.std.proofs.lemmas.Bool.{cases_lt}
use Rattle.std.proofs.lemmas.List.{length-drop}
use Rattle.esdk_fields.specs.declared.contents.Content.{Content}
use Rattle.esdk_fields.specs.declared.contents.Content.TheVariants.{Framed}
use Rattle.esdk_fields.specs.declared.faults.Fault.{Fault}
use Rattle.esdk_fields.specs.Bytes.{AreBytes}
use Rattle.esdk_fields.specs.Place.{Place, start}
use Rattle.esdk_fields.specs.Reading.{Reading, Read, Refused, Wanting}
use Rattle.esdk_fields.proofs.Bytes.{AreBytes-drop}
use Rattle.header_codec.specs.Header.{frame_length}
use Rattle.frame_codec.specs.Unit.{Piece, More, Last, Under, frame}
use Rattle.body_format.specs.declared.verdicts.Verdict.TheVariants.{Whole}
use Rattle.body_format.specs.OneSlot.{IsTabled, last_in, more_in}
use Rattle.body_format.specs.Rows.{JudgedBody, is_more, verdict_of}
use Rattle.body_format.specs.Body.{judged_frames}
use Rattle.body_format.specs.Laws.{IsFirst}
use Rattle.body_format.specs.Table.{decided_at, first_not_regular, framed_verdict, good_final, good_regular, listed, slot_bytes}
use Rattle.body_format.proofs.FrameTable.{frame_tabled, none_or_some}
use Rattle.body_format.proofs.OneSlot.{decides, final_short, regular_full}
use Rattle.body_format.proofs.Ranges.{flat_map_same}
use Rattle.body_format.proofs.TableLaws.{first_found}
use Rattle.extract_core.specs.Extracted.{ByteRange, OpenBody, extracted_body, first_slot, in_range, last_slot, slot_count, slot_part, slot_read, slots_taken, unit_content, unit_fault}
use Rattle.extract_core.proofs.Contents.{concat_flat, concat_two, last_content, more_content, no_content, none_before, none_behind, none_each, one_each, range_slots}
use Rattle.extract_core.proofs.Definition.{AreGood, ends_at, ends_behind, flat_map_next, flat_map_split, parts_before, parts_next, taken_at, taken_least}
use Rattle.extract_core.proofs.GoodSlots.{final_few, open_frames, regular_few, slot_tabled, under, whole_ends}
use Rattle.extract_core.proofs.SlotNumbers.{slot_behind}

-- ---- the slots of a body of frames

-- So the slots are up to the first that isn't a good regular one.
pub record AreSlots (n : ℕ) (g : ℕ → List ℕ) (b : OpenBody) (m : ℕ) : Type 0 where
  pub read : (k : ℕ) → g k ≡ unit_content (slot_read b k)
  pub good : (k : ℕ) → k < m → (is_more (slot_read b k) ≡ true) × ((length (g k) ≡ n) × (unit_fault (slot_read b k) ≡ None))
  pub other : is_more (slot_read b m) ≡ false
  pub short : length (g m) ≤ n

-- what a range has of them, up to a slot behind its last one or behind them all
parts_are : (n : ℕ) (g : ℕ → List ℕ) (b : OpenBody) (m e : ℕ) (range : ByteRange) → b.content ≡ Framed n → 1 ≤ n → 1 ≤ range.count
    → AreSlots n g b m → first_slot b.content range ≤ m → first_slot b.content range ≤ e → e ≤ m + 1
    → ((k : ℕ) → e ≤ k → k < m + 1 → range.at + range.count ≤ k * n)
    → parts_before b range e ≡ in_range range 0 (flat_map g (range_with_len 0 (m + 1)))
parts_are n g b m e range is some count slots early order within behind =
    let first : ℕ = first_slot b.content range in
    let at_first : first ≡ range.at / n = ap (λ (c : Content). first_slot c range) is in
    let length_is : frame_length b.content ≡ n = ap frame_length is in
    let f : ℕ → List ℕ = slot_part b range in
    let same : (k : ℕ) → in_range range (k * n) (g k) ≡ f k =
    (λ k. ap (in_range range (k * n)) (slots.read k) ∙ ap (λ (w : ℕ). in_range range (k * w) (unit_content (slot_read b k))) (sym length_is)) in
    let before : (k : ℕ) → 0 ≤ k → k < 0 + first → f k ≡ [] =
    (λ k low high.
    let size : length (g k) ≡ n = (slots.good k (omega (arith, high, early))).1.0 in
    let up : (k + 1) * n ≤ first * n = mul-le-mul_right n (omega (arith, high)) in
    let low_end : first * n ≤ range.at = subst (λ (q : ℕ). q * n ≤ range.at) (sym at_first) (div-mul-le_self range.at n) in
    let on : (k + 1) * n ≡ k * n + n = omega arith in
    sym (same k) ∙ none_before range (k * n) (g k) (omega (arith, size, up, low_end, on))) in
    let after : (k : ℕ) → first + (e - first) ≤ k → k < first + (e - first) + (m + 1 - e) → f k ≡ [] =
    (λ k low high. sym (same k) ∙ none_behind range (k * n) (g k) (behind k (omega (arith, low, order)) (omega (arith, high, order, within)))) in
    let none : 0 ≡ 0 * n = omega arith in
    let from_none : 0 + first ≡ first = omega arith in
    let rest : m + 1 - first - (e - first) ≡ m + 1 - e = omega (arith, order, within) in
    sym (
    ap (λ (w : ℕ). in_range range w (flat_map g (range_with_len 0 (m + 1)))) none
    ∙ range_slots range n g 0 (m + 1) (λ k low high. (slots.good k (omega (arith, high))).1.0)
    ∙ flat_map_same (λ k. in_range range (k * n) (g k)) f 0 (m + 1) (λ k low high. same k)
    ∙ flat_map_split f 0 first (m + 1) (omega (arith, order, within))
    ∙ ap (λ (l : List ℕ). l ++ flat_map f (range_with_len (0 + first) (m + 1 - first))) (none_each f 0 first before)
    ∙ ap (λ (w : ℕ). flat_map f (range_with_len w (m + 1 - first))) from_none
    ∙ flat_map_split f first (e - first) (m + 1 - first) (omega (arith, order, within))
    ∙ ap (λ (w : ℕ). flat_map f (range_with_len first (e - first)) ++ flat_map f (range_with_len (first + (e - first)) w)) rest
    ∙ ap (λ (l : List ℕ). flat_map f (range_with_len first (e - first)) ++ l) (none_each f (first + (e - first)) (m + 1 - e) after)
    ∙ append-nil (flat_map f (range_with_len first (e - first)))
    )

-- a range that isn't empty has a slot
pub some_slots : (n : ℕ) (range : ByteRange) → 1 ≤ n → 1 ≤ range.count
    → 1 ≤ slot_count (Framed n) range
some_slots n range some count =
    let last : ℕ = (range.at + range.count - 1) / n in
    let ordered : range.at / n ≤ last =
    (le-div_iff_mul-le some).1 (omega (arith, count, div-mul-le_self range.at n)) in
    omega (arith, ordered)

-- where the range's slots are all good, or up to the last one of the body, which is good
pub slots_extract : (n : ℕ) (g : ℕ → List ℕ) (b : OpenBody) (m : ℕ) (range : ByteRange) → b.content ≡ Framed n → 1 ≤ n → 1 ≤ range.count
    → AreSlots n g b m → first_slot b.content range ≤ m → (m < first_slot b.content range + slot_count b.content range → unit_fault (slot_read b m) ≡ None)
    → extracted_body b range ≡ record { part = in_range range 0 (flat_map g (range_with_len 0 (m + 1))); fault = None }
slots_extract n g b m range is some count slots order sound =
    let first : ℕ = first_slot b.content range in
    let many : ℕ = slot_count b.content range in
    let last : ℕ = (range.at + range.count - 1) / n in
    let at_first : first ≡ range.at / n = ap (λ (c : Content). first_slot c range) is in
    let many_is : many ≡ last + 1 - range.at / n = ap (λ (c : Content). slot_count c range) is in
    let ordered : range.at / n ≤ last = (le-div_iff_mul-le some).1 (omega (arith, count, div-mul-le_self range.at n)) in
    let high : range.at + range.count - 1 < last * n + n = lt-div-mul-add (omega (arith, some)) in
    elim (cases_lt m (first + many)) [
      | inl ends ↦
          (let good : AreGood b range m = record { order = order; each = λ k low h. (slots.good k h).0 } in
          ends_at b range m count good ends slots.other
          ∙ ap (λ (l : List ℕ). record { part = l; fault = unit_fault (slot_read b m) })
          (sym (parts_next b range m order) ∙ parts_are n g b m (m + 1) range is some count slots order (omega (arith, order)) (omega arith) (λ k low h. absurd (omega (arith, low, h))))
          ∙ ap (λ (o : Option Fault). record { part = in_range range 0 (flat_map g (range_with_len 0 (m + 1))); fault = o }) (sound ends))
      | inr within ↦
          (let good : AreGood b range (first + many) = record { order = omega arith; each = λ k low h. (slots.good k (omega (arith, h, within))).0 } in
          ends_behind b range (first + many) count (omega (arith, many_is, ordered)) refl good
          ∙ ap (λ (l : List ℕ). record { part = l; fault = None })
          (parts_are n g b m (first + many) range is some count slots order (omega arith) (omega (arith, within))
          (λ k low h.
          let up : (last + 1) * n ≤ k * n = mul-le-mul_right n (omega (arith, low, at_first, many_is, ordered)) in
          let on : (last + 1) * n ≡ last * n + n = omega arith in
          omega (arith, up, on, high, count))))
    ]

-- ---- a body of frames

full_content : (n : ℕ) (u : Under) (k : ℕ) (bytes text : List ℕ) (r : Reading Piece) → IsTabled n u k bytes r → good_regular n u k bytes ≡ Some text
    → (is_more r ≡ true) × ((length (unit_content r) ≡ n) × (unit_fault r ≡ None))
full_content n u k bytes text r t e =
    let c = more_content r text (t.regular ∙ e) in
    (c.0, (ap length c.1.0 ∙ regular_full n u k bytes text e, c.1.1))

-- what the slot has that isn't a good regular one
record IsOther (n : ℕ) (u : Under) (bytes : List ℕ) (m : ℕ) (r : Reading Piece) : Type 0 where
  pub other : is_more r ≡ false
  pub joined : concat (listed (good_final n u m (slot_bytes n bytes m))) ≡ unit_content r
  pub short : length (unit_content r) ≤ n
  pub sound : 1 ≤ length (listed (good_final n u m (slot_bytes n bytes m))) → unit_fault r ≡ None

other_none : (n : ℕ) (u : Under) (bytes : List ℕ) (m : ℕ) (r : Reading Piece) → good_final n u m (slot_bytes n bytes m) ≡ None → is_more r ≡ false → unit_content r ≡ [] → IsOther n u bytes m r
other_none n u bytes m r none other empty = record {
  other = other;
  joined = ap (λ (o : Option (List ℕ)). concat (listed o)) none ∙ sym empty;
  short = omega (arith, ap length empty);
  sound = λ h. absurd (omega (arith, h, ap (λ (o : Option (List ℕ)). length (listed o)) none));
}

other_some : (n : ℕ) (u : Under) (bytes text : List ℕ) (m : ℕ) (r : Reading Piece) → good_final n u m (slot_bytes n bytes m) ≡ Some text → IsTabled n u m (slot_bytes n bytes m) r → IsOther n u bytes m r
other_some n u bytes text m r good t =
    let c = last_content r text (t.last ∙ good) in
    record {
      other = c.0;
      joined = ap (λ (o : Option (List ℕ)). concat (listed o)) good ∙ append-nil text ∙ sym c.1.0;
      short = omega (arith, ap length c.1.0, final_short n u m (slot_bytes n bytes m) text good);
      sound = λ h. c.1.1;
    }

other_is : (n : ℕ) (max_unit : Option ℕ) (key id bytes : List ℕ) (m : ℕ) → AreBytes bytes → good_regular n (under key id) m (slot_bytes n bytes m) ≡ None
    → IsOther n (under key id) bytes m (slot_read (open_frames n max_unit key id bytes) m)
other_is n max_unit key id bytes m fits here =
    let u : Under = under key id in
    let b : OpenBody = open_frames n max_unit key id bytes in
    let there : List ℕ = slot_bytes n bytes m in
    let r : Reading Piece = slot_read b m in
    elim (none_or_some (good_final n u m there)) [
      | inl none ↦ elim (cases_lt last_slot m) [
        | inl behind ↦
            (let e : r ≡ Wanting = slot_behind b m behind in
            other_none n u bytes m r none (ap is_more e) (ap unit_content e))
        | inr within ↦
            (let t = slot_tabled n max_unit key id bytes m within in
            let c = no_content r (t.regular ∙ here) (t.last ∙ none) in
            other_none n u bytes m r none c.0 c.1)
      ]
      | inr some ↦
          other_some n u bytes some.0 m r some.1 (slot_tabled n max_unit key id bytes m (final_few n u m there some.0 (AreBytes-drop (m * (n + 32)) bytes fits) some.1))
    ]

-- the judgement of a body of frames, and its slots
pub record FramesJudged (n : ℕ) (b : OpenBody) (j : JudgedBody) : Type 0 where
  pub last : ℕ
  pub slots : AreSlots n (λ k. unit_content (slot_read b k)) b last
  pub content : concat j.units ≡ flat_map (λ k. unit_content (slot_read b k)) (range_with_len 0 (last + 1))
  pub units : length j.units ≤ last + 1
  pub sound : last + 1 ≤ length j.units → unit_fault (slot_read b last) ≡ None
  pub whole : j.verdict ≡ Whole → last + 1 ≤ length j.units
  pub long : j.verdict ≡ Whole
      → length b.bytes ≡ last * (n + 32) + length (unit_content (slot_read b last)) + 40

more_none : (r : Reading Piece) → more_in r ≡ None → is_more r ≡ false
more_none (Read (More content) next) e = absurd cc
more_none (Read (Last content) next) e = refl
more_none (Refused fault at) e = refl
more_none Wanting e = refl

-- where the verdict is that all is whole, a last unit stands there
pub whole_last : (r : Reading Piece) → verdict_of r ≡ Whole → (x : List ℕ) × (last_in r ≡ Some x)
whole_last (Read (More content) next) e = absurd cc
whole_last (Read (Last content) next) e = (content, refl)
whole_last (Refused fault at) e = absurd cc
whole_last Wanting e = absurd cc

final_there : (n : ℕ) (u : Under) (m : ℕ) (bytes : List ℕ) → good_regular n u m bytes ≡ None → framed_verdict n u m bytes ≡ Whole → (x : List ℕ) × (good_final n u m bytes ≡ Some x)
final_there n u m bytes here e =
    let t = frame_tabled n u m 0 bytes in
    let r : Reading Piece = frame n u m (start bytes) in
    let found = whole_last r (t.verdict (more_none r (t.regular ∙ here)) ∙ e) in
    (found.0, sym t.last ∙ found.1)

pub frames_judged : (n : ℕ) (max_unit : Option ℕ) (key id : List ℕ) (p : Place) → AreBytes p.left
    → FramesJudged n (open_frames n max_unit key id p.left) (judged_frames n (under key id) p)
frames_judged n max_unit key id p fits =
    let u : Under = under key id in
    let b : OpenBody = open_frames n max_unit key id p.left in
    let m : ℕ = first_not_regular n u p.left in
    let first : IsFirst n u p.left m = first_found n u p.left in
    let is : judged_frames n u p ≡ decided_at n u p.left m = decides n u p m first in
    let there : List ℕ = slot_bytes n p.left m in
    let verdict = ap (λ (j : JudgedBody). j.verdict) is in
    let g : ℕ → List ℕ = λ k. unit_content (slot_read b k) in
    let f : ℕ → List (List ℕ) = λ i. listed (good_regular n u i (slot_bytes n p.left i)) in
    let final : List (List ℕ) = listed (good_final n u m (slot_bytes n p.left m)) in
    let o : IsOther n u p.left m (slot_read b m) = other_is n max_unit key id p.left m fits first.here in
    let number : (k : ℕ) → k < m → k ≤ last_slot =
    (λ k h. omega (arith, regular_few n u k (slot_bytes n p.left k) (first.before k h).0 (AreBytes-drop (k * (n + 32)) p.left fits) (first.before k h).1)) in
    let full : (k : ℕ) → k < m → (is_more (slot_read b k) ≡ true) × ((length (g k) ≡ n) × (unit_fault (slot_read b k) ≡ None)) =
    (λ k h. full_content n u k (slot_bytes n p.left k) (first.before k h).0 (slot_read b k) (slot_tabled n max_unit key id p.left k (number k h)) (first.before k h).1) in
    let each : (k : ℕ) → 0 ≤ k → k < 0 + m → concat (f k) ≡ g k =
    (λ k low h.
    let text : List ℕ = (first.before k (omega (arith, h))).0 in
    let good = (first.before k (omega (arith, h))).1 in
    ap (λ (x : Option (List ℕ)). concat (listed x)) good ∙ append-nil text
    ∙ sym (more_content (slot_read b k) text ((slot_tabled n max_unit key id p.left k (number k (omega (arith, h)))).regular ∙ good)).1.0) in
    let from_none : 0 + m ≡ m = omega arith in
    let one : length (flat_map f (range_with_len 0 m)) ≡ m = one_each f 0 m (λ k low h. ap (λ (x : Option (List ℕ)). length (listed x)) (first.before k (omega (arith, h))).1) in
    let len : length (judged_frames n u p).units ≡ m + length final = ap (λ (j : JudgedBody). length j.units) is ∙ length-append (flat_map f (range_with_len 0 m)) final ∙ ap (λ (w : ℕ). w + length final) one in
    record {
      last = m;
      slots = record { read = λ k. refl; good = full; other = o.other; short = o.short };
      content = ap (λ (j : JudgedBody). concat j.units) is ∙ concat_two (flat_map f (range_with_len 0 m)) final
          ∙ ap (λ (l : List ℕ). l ++ concat final) (concat_flat f g 0 m each)
          ∙ ap (λ (l : List ℕ). flat_map g (range_with_len 0 m) ++ l) (o.joined ∙ ap g (sym from_none))
          ∙ sym (flat_map_next g 0 m);
      units = omega (arith, len, few_listed (good_final n u m (slot_bytes n p.left m)));
      sound = λ h. o.sound (omega (arith, len, h));
      whole = λ e.
          let found = final_there n u m there first.here (sym verdict ∙ e) in
          omega (arith, len, ap (λ (x : Option (List ℕ)). length (listed x)) found.1);
      long = λ e.
          let found = final_there n u m there first.here (sym verdict ∙ e) in
          let text = sym (append-nil found.0)
          ∙ sym (ap (λ (x : Option (List ℕ)). concat (listed x)) found.1) ∙ o.joined in
          let ends = whole_ends n u m there found.0 found.1 (sym verdict ∙ e) in
          omega (arith, ap length text, ends, length-drop (m * (n + 32)) p.left);
    }
  where
    few_listed : (o : Option (List ℕ)) → length (listed o) ≤ 1
    few_listed None = omega arith
    few_listed (Some x) = omega arith

-- where each slot that is taken has a unit
pub frames_extract : (n : ℕ) (b : OpenBody) (j : JudgedBody) (range : ByteRange) → b.content ≡ Framed n → 1 ≤ n → 1 ≤ range.count → FramesJudged n b j
    → first_slot b.content range + slots_taken b range ≤ length j.units → extracted_body b range ≡ record { part = in_range range 0 (concat j.units); fault = None }
frames_extract n b j range is some count f few =
    let first : ℕ = first_slot b.content range in
    let last : ℕ = (range.at + range.count - 1) / n in
    let at_first : first ≡ range.at / n = ap (λ (c : Content). first_slot c range) is in
    let many_is : slot_count b.content range ≡ last + 1 - range.at / n = ap (λ (c : Content). slot_count c range) is in
    let ordered : range.at / n ≤ last = (le-div_iff_mul-le some).1 (omega (arith, count, div-mul-le_self range.at n)) in
    let least = taken_least b range first (record { order = omega arith; each = λ k low h. absurd (omega (arith, low, h)) }) (omega (arith, many_is, ordered)) in
    let early : first ≤ f.last = omega (arith, least, few, f.units) in
    slots_extract n (λ k. unit_content (slot_read b k)) b f.last range is some count f.slots early
    (λ ends.
    let taken = taken_at b range f.last (record { order = early; each = λ k low h. (f.slots.good k h).0 }) ends f.slots.other in
    f.sound (omega (arith, taken, early, few)))
    ∙ ap (λ (l : List ℕ). record { part = in_range range 0 l; fault = None }) (sym f.content)
