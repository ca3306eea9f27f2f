-- What is so while the parts of a range are written.
use Rattle.std.proofs.Common.{◌≡◌, ℕ, ◌+◌, ◌-◌, ◌*◌, ◌<◌, ◌≤◌, min, Bool, true, false, List, [], ◌++◌, length, take, drop, Option, Some, None, Result, Ok, Err, IfErr, IfOk, refl, sym, ap, subst, ◌∙◌, arith, inl, inr, append-nil, mul-le-mul_right}
use Rattle.std.proofs.lemmas.List.{length-append, length-take, length-drop, take_all}
use Rattle.std.proofs.lemmas.Bool.{cases_lt}
use Rattle.std.proofs.KnownBytes.{Appends-nil, Appends-trans}
use Rattle.std.specs.Io.KnownBytes.{Appends}
use Rattle.std.specs.Result.{IsErrAnd}
use Rattle.esdk_fields.specs.Counts.{Rose}
use Rattle.esdk_fields.specs.declared.contents.Content.{Content}
use Rattle.esdk_fields.specs.declared.contents.Content.TheVariants.{Single, Framed}
use Rattle.esdk_fields.specs.declared.faults.Fault.{Fault}
use Rattle.esdk_fields.specs.declared.refusals.Outside.TheVariants as outsides
use Rattle.esdk_fields.specs.Reading.{Reading}
use Rattle.esdk_base.specs.ReceiverLaws.{front_after, front_longer}
use Rattle.esdk_base.specs.Sink.{AppendsFront}
use Rattle.esdk_base.specs.Streams.{ShelfState, SinkState}
use Rattle.frame_codec.specs.Unit.{Piece}
use Rattle.body_format.specs.Rows.{is_more}
use Rattle.whole_input.specs.FileReads.{Grows, IsSeenAs}
use Rattle.whole_input.proofs.Agreeing.{grows_more, grows_none, seen_first, seen_second}
use Rattle.extract_core.specs.declared.errors.ExtractError.{ExtractError}
use Rattle.extract_core.specs.declared.errors.ExtractError.TheVariants as errors
use Rattle.extract_core.specs.declared.slots.Slots.{Slots}
use Rattle.extract_core.specs.Extracted.{ByteRange, Extraction, OpenBody, extracted_body, first_slot, in_range, slot_count, slot_part, slot_read, slot_width, slots_taken, unit_content, unit_fault}
use Rattle.extract_core.specs.Slots.{SlotsFindFault, IsUnitRead, ContentIsSized, OnBody, PartFails, RangeFails, ReadsSlot, SlotsKeepBody, SlotFails, TakesSlot, UnitFails, WritesRange, WritesSlot, body_in, first_byte, range_reach, unit_reach}
use Rattle.extract_core.proofs.Definition.{AreGood, begins_part, ends_at, ends_behind, fault_ends, not_zero, nothing_in_range, of_nothing, parts_before, parts_next, taken_all, taken_least}
use Rattle.extract_core.proofs.Taking.{fails_from, same_same}

-- all of what was gained is a front of it
pub whole_front : (a b : Option (List ℕ)) (xs : List ℕ) → Appends a b xs → AppendsFront a b xs
whole_front a b xs gained = (length xs, subst (Appends a b) (sym (take_all (length xs) xs (omega arith))) gained)

-- The slots before this one are good ones that others follow, their parts were written, and so many bytes are in them.
pub record IsWriting (old now : Slots) (range : ByteRange) (before after : ShelfState) (name : List ℕ) (output put : SinkState) (slot written : ℕ) : Type 0 where
  pub same : SlotsKeepBody old now
  pub empty : now.unit.held ≡ []
  pub files : after.files ≡ before.files
  pub grown : Grows before.calls after.calls
  pub faults : after.faults ≡ before.faults
  pub few : written ≤ first_byte old.content slot - range.at
  pub good : OnBody old before after name (λ b. AreGood b range slot)
  pub gained : OnBody old before after name (λ b. Appends output.written put.written (parts_before b range slot))
  pub count : OnBody old before after name (λ b. written ≡ length (parts_before b range slot))
  pub given : OnBody old before after name (λ b. after.given ≤ before.given + (slot - first_slot old.content range) * slot_width old.content)
  pub later : output.faults ≤ put.faults

pub no_parts : (b : OpenBody) (range : ByteRange) → parts_before b range (first_slot b.content range) ≡ []
no_parts b range = let e : first_slot b.content range - first_slot b.content range ≡ 0 = omega arith in rw e refl

pub begins : (s : Slots) (range : ByteRange) (shelf : ShelfState) (name : List ℕ) (output : SinkState) (slot : ℕ) → s.unit.held ≡ [] → slot ≡ first_slot s.content range
    → IsWriting s s range shelf shelf name output output slot 0
begins s range shelf name output slot empty is = record {
  same = record { key = refl; id = refl; content = refl; max_unit = refl; begin = refl };
  empty = empty;
  files = refl;
  grown = grows_none shelf.calls;
  faults = refl;
  few = omega arith;
  good = λ told h. record { order = omega (arith, is); each = λ k low high. absurd (omega (arith, low, high, is)) };
  gained = λ told h. rw is (subst (Appends output.written output.written) (sym (no_parts (body_in s told) range)) (Appends-nil output.written));
  count = λ told h. rw is (sym (ap length (no_parts (body_in s told) range)));
  given = λ told h. omega arith;
  later = omega arith;
}

-- ---- one slot

body_same : (a b : Slots) (told : List ℕ) → SlotsKeepBody a b → body_in b told ≡ body_in a told
body_same a b told same = rw (same.content, same.max_unit, same.key, same.id, same.begin) refl

-- what is read at the slot, of the body as it was
read_same : (old l : Slots) (told out : List ℕ) (slot : ℕ) (last : Bool) → SlotsKeepBody old l → IsUnitRead (slot_read (body_in l told) slot) last out → IsUnitRead (slot_read (body_in old told) slot) last out
read_same old l told out slot last same read = subst (λ (b : OpenBody). IsUnitRead (slot_read b slot) last out) (body_same old l told same) read

content_is : (r : Reading Piece) (last : Bool) (out : List ℕ) → IsUnitRead r last out → unit_content r ≡ out
content_is r true out read = ap unit_content read.is
content_is r false out read = ap unit_content read.is

none_wrong : (r : Reading Piece) (last : Bool) (out : List ℕ) → IsUnitRead r last out → unit_fault r ≡ None
none_wrong r last out read = ap unit_fault read.is

more_is : (r : Reading Piece) (out : List ℕ) → IsUnitRead r false out → is_more r ≡ true
more_is r out read = ap is_more read.is

last_is : (r : Reading Piece) (out : List ℕ) → IsUnitRead r true out → is_more r ≡ false
last_is r out read = ap is_more read.is

part_is : (b : OpenBody) (range : ByteRange) (slot : ℕ) (last : Bool) (out : List ℕ) → IsUnitRead (slot_read b slot) last out → slot_part b range slot ≡ in_range range (first_byte b.content slot) out
part_is b range slot last out read = ap (in_range range (first_byte b.content slot)) (content_is (slot_read b slot) last out read)

-- how many bytes of a content are in the range
pub part_length : (range : ByteRange) (first : ℕ) (out : List ℕ) → length (in_range range first out) ≡ min (range.at + range.count - first) (length out) - (range.at - first)
part_length range first out = length-drop (range.at - first) (take (range.at + range.count - first) out) ∙ ap (λ (n : ℕ). n - (range.at - first)) (length-take (range.at + range.count - first) out)

-- the bytes written are no more than those before the next slot
few_next : (content : Content) (range : ByteRange) (out : List ℕ) (slot written n : ℕ) → ContentIsSized content false out → written ≤ first_byte content slot - range.at
    → n ≡ length (in_range range (first_byte content slot) out) → written + n ≤ first_byte content (slot + 1) - range.at
few_next Single range out slot written n sized few is = absurd (let no : false ≡ true = sized.single refl in cc)
few_next (Framed frame) range out slot written n sized few is =
    let most : length out ≤ frame = sized.frame frame refl in
    let len = part_length range (slot * frame) out in
    let on : (slot + 1) * frame ≡ slot * frame + frame = omega arith in
    omega (arith, most, len, on, few, is)

-- the part of the slot is written behind those before it
gained_next : (old l new : Slots) (range : ByteRange) (before mid after : ShelfState) (name : List ℕ) (output put put2 : SinkState) (slot written : ℕ) (last : Bool)
    → IsWriting old l range before mid name output put slot written → TakesSlot l new mid after name slot last
    → Appends put.written put2.written (in_range range (first_byte l.content slot) new.unit.out)
    → OnBody old before after name (λ b. Appends output.written put2.written (parts_before b range slot ++ slot_part b range slot))
gained_next old l new range before mid after name output put put2 slot written last w takes put_is = λ told h.
    let b : OpenBody = body_in old told in
    let read = read_same old l told new.unit.out slot last w.same (takes.read told (seen_second before mid after name told w.files w.grown takes.grown h)) in
    let here : in_range range (first_byte l.content slot) new.unit.out ≡ slot_part b range slot =
    ap (λ (c : Content). in_range range (first_byte c slot) new.unit.out) w.same.content ∙ sym (part_is b range slot last new.unit.out read) in
    Appends-trans output.written put.written put2.written (parts_before b range slot) (slot_part b range slot) (w.gained told (seen_first before mid after name told w.grown takes.grown h)) (subst (Appends put.written put2.written) here put_is)

count_next : (old l new : Slots) (range : ByteRange) (before mid after : ShelfState) (name : List ℕ) (output put : SinkState) (slot written n : ℕ) (last : Bool)
    → IsWriting old l range before mid name output put slot written → TakesSlot l new mid after name slot last
    → n ≡ length (in_range range (first_byte l.content slot) new.unit.out)
    → OnBody old before after name (λ b. written + n ≡ length (parts_before b range slot ++ slot_part b range slot))
count_next old l new range before mid after name output put slot written n last w takes is = λ told h.
    let b : OpenBody = body_in old told in
    let read = read_same old l told new.unit.out slot last w.same (takes.read told (seen_second before mid after name told w.files w.grown takes.grown h)) in
    let here : in_range range (first_byte l.content slot) new.unit.out ≡ slot_part b range slot =
    ap (λ (c : Content). in_range range (first_byte c slot) new.unit.out) w.same.content ∙ sym (part_is b range slot last new.unit.out read) in
    omega (arith, w.count told (seen_first before mid after name told w.grown takes.grown h), is, ap length here, length-append (parts_before b range slot) (slot_part b range slot))

one_more : (width n : ℕ) → (n + 1) * width ≡ n * width + width
one_more width n = omega arith

-- how much was read of the slots before this one, and of it, where others follow
width_next : (old l new : Slots) (range : ByteRange) (before mid after : ShelfState) (name : List ℕ) (output put : SinkState) (slot written : ℕ)
    → IsWriting old l range before mid name output put slot written → TakesSlot l new mid after name slot false → first_slot old.content range ≤ slot
    → OnBody old before after name (λ b. after.given ≤ before.given + (slot + 1 - first_slot old.content range) * slot_width old.content)
width_next old l new range before mid after name output put slot written w takes order = λ told h.
    let more = takes.width refl told (seen_second before mid after name told w.files w.grown takes.grown h) in
    let on = one_more (slot_width old.content) (slot - first_slot old.content range) in
    let e : slot + 1 - first_slot old.content range ≡ (slot - first_slot old.content range) + 1 = omega (arith, order) in
    omega (arith, w.given told (seen_first before mid after name told w.grown takes.grown h), more, ap slot_width w.same.content, on, ap (λ (n : ℕ). n * slot_width old.content) e)

-- and of it, whatever it is
given_next : (old l new : Slots) (range : ByteRange) (before mid after : ShelfState) (name : List ℕ) (output put : SinkState) (slot written : ℕ)
    → IsWriting old l range before mid name output put slot written → ReadsSlot l new mid after name
    → OnBody old before after name (λ b. after.given ≤ before.given + (slot - first_slot old.content range) * slot_width old.content + unit_reach old.content old.max_unit b.bytes)
given_next old l new range before mid after name output put slot written w reads = λ told h.
    let more = reads.given told (seen_second before mid after name told w.files w.grown reads.grown h) in
    let same : unit_reach l.content l.max_unit (drop l.begin told) ≡ unit_reach old.content old.max_unit (drop old.begin told) = rw (w.same.content, w.same.max_unit, w.same.begin) refl in
    omega (arith, w.given told (seen_first before mid after name told w.grown reads.grown h), more, same)

sized_same : (old l : Slots) (last : Bool) (out : List ℕ) → SlotsKeepBody old l → ContentIsSized l.content last out → ContentIsSized old.content last out
sized_same old l last out same sized = subst (λ (c : Content). ContentIsSized c last out) same.content sized

-- a slot more that another one follows
pub writes_on : (old l new : Slots) (range : ByteRange) (before mid after : ShelfState) (name : List ℕ) (output put put2 : SinkState) (slot written n : ℕ)
    → IsWriting old l range before mid name output put slot written → WritesSlot l new range mid after name put put2 slot n false → ReadsSlot l new mid after name
    → first_slot old.content range ≤ slot → IsWriting old new range before after name output put2 (slot + 1) (written + n)
writes_on old l new range before mid after name output put put2 slot written n w wrote reads order =
    let takes = wrote.takes in
    let sized = sized_same old l false new.unit.out w.same takes.sized in
    let size : n ≡ length (in_range range (first_byte old.content slot) new.unit.out) = wrote.count ∙ ap (λ (c : Content). length (in_range range (first_byte c slot) new.unit.out)) w.same.content in
    record {
      same = same_same old l new w.same reads.same;
      empty = takes.empty;
      files = reads.files ∙ w.files;
      grown = grows_more before.calls mid.calls after.calls w.grown reads.grown;
      faults = takes.faults ∙ w.faults;
      few = few_next old.content range new.unit.out slot written n sized w.few size;
      good = λ told h.
          let read = read_same old l told new.unit.out slot false w.same (takes.read told (seen_second before mid after name told w.files w.grown takes.grown h)) in
          record {
            order = omega (arith, order);
            each = λ k low high. elim (cases_lt k slot) [
              | inl before_it ↦ (w.good told (seen_first before mid after name told w.grown takes.grown h)).each k low before_it
              | inr here ↦ (let e : slot ≡ k = omega (arith, here, high) in subst (λ (j : ℕ). is_more (slot_read (body_in old told) j) ≡ true) e (more_is (slot_read (body_in old told) slot) new.unit.out read))
            ];
          };
      gained = λ told h. subst (Appends output.written put2.written) (sym (parts_next (body_in old told) range slot order))
          (gained_next old l new range before mid after name output put put2 slot written false w takes wrote.gained told h);
      count = λ told h. count_next old l new range before mid after name output put slot written n false w takes wrote.count told h ∙ sym (ap length (parts_next (body_in old told) range slot order));
      given = width_next old l new range before mid after name output put slot written w takes order;
      later = omega (arith, w.later, wrote.later);
    }

-- ---- the ends

-- so many slots before the last are within those that are taken
within_taken : (b : OpenBody) (range : ByteRange) (slots : ℕ) → 1 ≤ range.count → slots + 1 ≤ slots_taken b range
    → slots * slot_width b.content + unit_reach b.content b.max_unit b.bytes ≤ range_reach b range
within_taken b range slots some few =
    let fewer : slots ≤ slots_taken b range - 1 = omega (arith, few) in
    rw (not_zero range.count some) (omega (arith, mul-le-mul_right (slot_width b.content) fewer))

pub reach_at : (old l new : Slots) (range : ByteRange) (before mid after : ShelfState) (name : List ℕ) (output put : SinkState) (slot written : ℕ)
    → IsWriting old l range before mid name output put slot written → ReadsSlot l new mid after name → 1 ≤ range.count
    → first_slot old.content range ≤ slot → slot < first_slot old.content range + slot_count old.content range
    → OnBody old before after name (λ b. after.given ≤ before.given + range_reach b range)
reach_at old l new range before mid after name output put slot written w reads some order within = λ told h.
    let b : OpenBody = body_in old told in
    let most = given_next old l new range before mid after name output put slot written w reads told h in
    let few = taken_least b range slot (w.good told (seen_first before mid after name told w.grown reads.grown h)) within in
    omega (arith, most, within_taken b range (slot - first_slot old.content range) some few)

-- the last unit's part is written
pub writes_last : (old l new : Slots) (range : ByteRange) (before mid after : ShelfState) (name : List ℕ) (output put put2 : SinkState) (slot written n : ℕ)
    → IsWriting old l range before mid name output put slot written → WritesSlot l new range mid after name put put2 slot n true
    → 1 ≤ range.count → slot < first_slot old.content range + slot_count old.content range
    → OnBody old before after name (λ b. WritesRange b range output put2 (written + n))
writes_last old l new range before mid after name output put put2 slot written n w wrote some within = λ told h.
    let takes = wrote.takes in
    let b : OpenBody = body_in old told in
    let read = read_same old l told new.unit.out slot true w.same (takes.read told (seen_second before mid after name told w.files w.grown takes.grown h)) in
    let is = ends_at b range slot some (w.good told (seen_first before mid after name told w.grown takes.grown h)) within (last_is (slot_read b slot) new.unit.out read) in
    record {
      fault = ap (λ (x : Extraction). x.fault) is ∙ none_wrong (slot_read b slot) true new.unit.out read;
      gained = subst (Appends output.written put2.written) (sym (ap (λ (x : Extraction). x.part) is)) (gained_next old l new range before mid after name output put put2 slot written true w takes wrote.gained told h);
      count = count_next old l new range before mid after name output put slot written n true w takes wrote.count told h ∙ sym (ap (λ (x : Extraction). length x.part) is);
    }

-- all slots of the range are written
pub writes_all : (old l : Slots) (range : ByteRange) (before mid : ShelfState) (name : List ℕ) (output put : SinkState) (behind written : ℕ)
    → IsWriting old l range before mid name output put behind written → 1 ≤ range.count → 1 ≤ slot_count old.content range → behind ≡ first_slot old.content range + slot_count old.content range
    → OnBody old before mid name (λ b. WritesRange b range output put written)
writes_all old l range before mid name output put behind written w some slots is_behind = λ told h.
    let b : OpenBody = body_in old told in
    let is = ends_behind b range behind some slots is_behind (w.good told h) in
    record {
      fault = ap (λ (x : Extraction). x.fault) is;
      gained = subst (Appends output.written put.written) (sym (ap (λ (x : Extraction). x.part) is)) (w.gained told h);
      count = w.count told h ∙ sym (ap (λ (x : Extraction). length x.part) is);
    }

-- a slot's width is no more than what is read for a unit at the most
width_reach : (content : Content) (max_unit : Option ℕ) (bytes : List ℕ) → slot_width content ≤ unit_reach content max_unit bytes
width_reach Single max_unit bytes = omega arith
width_reach (Framed frame) max_unit bytes = omega arith

pub reach_all : (old l : Slots) (range : ByteRange) (before mid : ShelfState) (name : List ℕ) (output put : SinkState) (behind written : ℕ)
    → IsWriting old l range before mid name output put behind written → 1 ≤ range.count → 1 ≤ slot_count old.content range
    → behind ≡ first_slot old.content range + slot_count old.content range
    → OnBody old before mid name (λ b. mid.given ≤ before.given + range_reach b range)
reach_all old l range before mid name output put behind written w some slots is = λ told h.
    let b : OpenBody = body_in old told in
    let all : AreGood b range (first_slot old.content range + slot_count old.content range) = subst (AreGood b range) is (w.good told h) in
    let taken = taken_all b range all in
    let last : ℕ = slot_count old.content range - 1 in
    let e : behind - first_slot old.content range ≡ last + 1 = omega (arith, is, slots) in
    omega (arith, w.given told h, ap (λ (n : ℕ). n * slot_width old.content) e, one_more (slot_width old.content) last, width_reach old.content old.max_unit (drop old.begin told), within_taken b range last some (omega (arith, slots, taken)))

-- what was written before this slot is a front of the part
front_before : (old l : Slots) (range : ByteRange) (before mid : ShelfState) (name : List ℕ) (output put : SinkState) (slot written : ℕ)
    → IsWriting old l range before mid name output put slot written → 1 ≤ range.count → first_slot old.content range ≤ slot → slot < first_slot old.content range + slot_count old.content range
    → OnBody old before mid name (λ b. AppendsFront output.written put.written (extracted_body b range).part)
front_before old l range before mid name output put slot written w some order within = λ told h.
    let b : OpenBody = body_in old told in
    let more = begins_part b range slot some (w.good told h) within in
    let all : (extracted_body b range).part ≡ (parts_before b range slot ++ slot_part b range slot) ++ more.0 = more.1 ∙ ap (λ (l : List ℕ). l ++ more.0) (parts_next b range slot order) in
    let gained : AppendsFront output.written put.written (parts_before b range slot) = whole_front output.written put.written (parts_before b range slot) (w.gained told h) in
    subst (AppendsFront output.written put.written) (sym all)
    (front_longer output.written put.written (parts_before b range slot ++ slot_part b range slot) more.0 (front_longer output.written put.written (parts_before b range slot) (slot_part b range slot) gained))

-- what is so of the body by fewer reads
body_later : (s : Slots) (before mid after : ShelfState) (name : List ℕ) (so : OpenBody → Type 0) → Grows before.calls mid.calls → Grows mid.calls after.calls → OnBody s before mid name so → OnBody s before after name so
body_later s before mid after name so first second is = λ told h. is told (seen_first before mid after name told first second h)

fault_at : (old l : Slots) (range : ByteRange) (before mid after : ShelfState) (name : List ℕ) (output put : SinkState) (slot written : ℕ) (fault : Fault)
    → IsWriting old l range before mid name output put slot written → Grows mid.calls after.calls → ((told : List ℕ) → IsSeenAs mid after name told → unit_fault (slot_read (body_in l told) slot) ≡ Some fault)
    → 1 ≤ range.count → slot < first_slot old.content range + slot_count old.content range
    → OnBody old before after name (λ b. SlotsFindFault b range output put fault)
fault_at old l range before mid after name output put slot written fault w grown faulty some within = λ told h.
    let early : IsSeenAs before mid name told = seen_first before mid after name told w.grown grown h in
    let b : OpenBody = body_in old told in
    let wrong : unit_fault (slot_read b slot) ≡ Some fault = ap (λ (c : OpenBody). unit_fault (slot_read c slot)) (sym (body_same old l told w.same)) ∙ faulty told (seen_second before mid after name told w.files w.grown grown h) in
    let ends = fault_ends (slot_read b slot) fault wrong in
    let is = ends_at b range slot some (w.good told early) within ends.0 in
    let none : slot_part b range slot ≡ [] = nothing_in_range range (first_byte b.content slot) (unit_content (slot_read b slot)) ends.1 in
    let part : parts_before b range slot ≡ (extracted_body b range).part =
    sym (append-nil (parts_before b range slot)) ∙ ap (λ (l : List ℕ). parts_before b range slot ++ l) (sym none) ∙ sym (ap (λ (x : Extraction). x.part) is) in
    record {
      fault_is = ap (λ (x : Extraction). x.fault) is ∙ wrong;
      gained = subst (Appends output.written put.written) part (w.gained told early);
    }

-- why the slot isn't taken is why the range isn't written
range_fails : (old l : Slots) (range : ByteRange) (before mid after : ShelfState) (name : List ℕ) (output put : SinkState) (slot written : ℕ) (error : ExtractError)
    → IsWriting old l range before mid name output put slot written → Grows mid.calls after.calls → UnitFails (λ told. slot_read (body_in l told) slot) mid after name error
    → 1 ≤ range.count → first_slot old.content range ≤ slot → slot < first_slot old.content range + slot_count old.content range
    → RangeFails old range before after name output put error
range_fails old l range before mid after name output put slot written (errors.Fault fault) w grown fails some order within =
    (fails.0 ∙ w.faults, fault_at old l range before mid after name output put slot written fault w grown fails.1 some within)
range_fails old l range before mid after name output put slot written (errors.Outside outsides.SourceFault) w grown fails some order within = absurd fails
range_fails old l range before mid after name output put slot written (errors.Outside outsides.SinkFault) w grown fails some order within = absurd fails
range_fails old l range before mid after name output put slot written (errors.Outside outsides.ShelfFault) w grown fails some order within =
    (fails_from before mid after name w.files w.faults fails, body_later old before mid after name (λ (b : OpenBody). AppendsFront output.written put.written (extracted_body b range).part) w.grown grown (front_before old l range before mid name output put slot written w some order within))
range_fails old l range before mid after name output put slot written (errors.Outside outsides.EntropyFault) w grown fails some order within = absurd fails
range_fails old l range before mid after name output put slot written (errors.Outside outsides.KeyringFault) w grown fails some order within = absurd fails
range_fails old l range before mid after name output put slot written (errors.Outside outsides.InputTooLong) w grown fails some order within = absurd fails
range_fails old l range before mid after name output put slot written errors.Memory w grown fails some order within =
    (fails ∙ w.faults, body_later old before mid after name (λ (b : OpenBody). AppendsFront output.written put.written (extracted_body b range).part) w.grown grown (front_before old l range before mid name output put slot written w some order within))

-- the output fails at the slot's part
put_fails : (old l new : Slots) (range : ByteRange) (before mid after : ShelfState) (name : List ℕ) (output put put2 : SinkState) (slot written : ℕ)
    → IsWriting old l range before mid name output put slot written → PartFails l new range mid after name put put2 slot
    → 1 ≤ range.count → first_slot old.content range ≤ slot → slot < first_slot old.content range + slot_count old.content range
    → RangeFails old range before after name output put2 (errors.Outside outsides.SinkFault)
put_fails old l new range before mid after name output put put2 slot written w fails some order within = (
  fails.takes.faults ∙ w.faults,
  omega (arith, fails.rose, w.later),
  λ told h.
      let b : OpenBody = body_in old told in
      let read = read_same old l told new.unit.out slot fails.last w.same (fails.takes.read told (seen_second before mid after name told w.files w.grown fails.takes.grown h)) in
      let here : in_range range (first_byte l.content slot) new.unit.out ≡ slot_part b range slot =
      ap (λ (c : Content). in_range range (first_byte c slot) new.unit.out) w.same.content ∙ sym (part_is b range slot fails.last new.unit.out read) in
      let early : IsSeenAs before mid name told = seen_first before mid after name told w.grown fails.takes.grown h in
      let more = begins_part b range slot some (w.good told early) within in
      let all : (extracted_body b range).part ≡ (parts_before b range slot ++ slot_part b range slot) ++ more.0 = more.1 ∙ ap (λ (l : List ℕ). l ++ more.0) (parts_next b range slot order) in
      subst (AppendsFront output.written put2.written) (sym all)
      (front_longer output.written put2.written (parts_before b range slot ++ slot_part b range slot) more.0
      (front_after output.written put.written put2.written (parts_before b range slot) (slot_part b range slot) (w.gained told early) (subst (AppendsFront put.written put2.written) here fails.front))),
)

-- why the slot isn't written is why the range isn't
pub slot_fails : (old l new : Slots) (range : ByteRange) (before mid after : ShelfState) (name : List ℕ) (output put put2 : SinkState) (slot written : ℕ) (error : ExtractError)
    → IsWriting old l range before mid name output put slot written → Grows mid.calls after.calls → SlotFails l new range mid after name put put2 slot error
    → 1 ≤ range.count → first_slot old.content range ≤ slot → slot < first_slot old.content range + slot_count old.content range
    → RangeFails old range before after name output put2 error
slot_fails old l new range before mid after name output put put2 slot written error w grown (inl fails) some order within =
    subst (λ (s : SinkState). RangeFails old range before after name output s error) (sym fails.1) (range_fails old l range before mid after name output put slot written error w grown fails.0 some order within)
slot_fails old l new range before mid after name output put put2 slot written error w grown (inr fails) some order within =
    subst (RangeFails old range before after name output put2) (sym fails.0) (put_fails old l new range before mid after name output put put2 slot written w fails.1 some order within)

-- what was put is the range's part of the slot, by where the slot's content begins
pub wrote_slot : (old new : Slots) (range : ByteRange) (before after : ShelfState) (name : List ℕ) (output put : SinkState) (slot first n : ℕ) (last : Bool) → first ≡ first_byte old.content slot
    → TakesSlot old new before after name slot last → Appends output.written put.written (in_range range first new.unit.out) → n ≡ length (in_range range first new.unit.out) → output.faults ≤ put.faults
    → WritesSlot old new range before after name output put slot n last
wrote_slot old new range before after name output put slot first n last is takes appends size later = record {
  takes = takes;
  gained = subst (λ (f : ℕ). Appends output.written put.written (in_range range f new.unit.out)) is appends;
  count = size ∙ ap (λ (f : ℕ). length (in_range range f new.unit.out)) is;
  later = later;
}

-- or a front of it
pub part_fails : (old new : Slots) (range : ByteRange) (before after : ShelfState) (name : List ℕ) (output put : SinkState) (slot first : ℕ) (last : Bool) (error : ExtractError) → first ≡ first_byte old.content slot
    → TakesSlot old new before after name slot last → (error ≡ errors.Outside outsides.SinkFault) × Rose output.faults put.faults × AppendsFront output.written put.written (in_range range first new.unit.out)
    → SlotFails old new range before after name output put slot error
part_fails old new range before after name output put slot first last error is takes fails = inr (
  fails.0,
  record {
    last = last;
    takes = takes;
    rose = fails.1;
    front = subst (λ (f : ℕ). AppendsFront output.written put.written (in_range range f new.unit.out)) is fails.2;
  },
)

-- an error that was passed on
pub passed_on : {T E : Type 0} (P : E → Type 0) (r : Result T E) (error : E) → IsErrAnd r (λ other. other ≡ error) → P error → IfErr r P
passed_on P (Ok x) error is so = tt
passed_on P (Err other) error is so = subst P (sym is) so

-- where an error was passed on, nothing is said of what is done
pub none_done : {T E : Type 0} (P : T → Type 0) (r : Result T E) (error : E) → IsErrAnd r (λ other. other ≡ error) → IfOk r P
none_done P (Ok x) error is = absurd is
none_done P (Err other) error is = tt

-- an empty range is written by writing nothing
pub writes_nothing : (b : OpenBody) (range : ByteRange) (output : SinkState) → range.count ≡ 0 → WritesRange b range output output 0
writes_nothing b range output e = record {
  fault = ap (λ (x : Extraction). x.fault) (of_nothing b range e);
  gained = subst (Appends output.written output.written) (sym (ap (λ (x : Extraction). x.part) (of_nothing b range e))) (Appends-nil output.written);
  count = sym (ap (λ (x : Extraction). length x.part) (of_nothing b range e));
}
