-- What is so while slots are read and opened one after another. Standard: AWS Encryption SDK
-- Specification, message body.
use Rattle.std.specs.Prelude.{◌≡◌, ◌⊎◌, ℕ, ◌+◌, ◌-◌, ◌*◌, ◌^◌, ◌<◌, ◌≤◌, max, min, List, [], ◌++◌}
use Rattle.std.specs.Prelude.{length, drop, Bool, true, false, ◌==◌, if◌then◌else◌, Option, Some}
use Rattle.std.specs.Prelude.{None}
use Rattle.std.specs.Io.KnownBytes.{Appends}
use Rattle.esdk_fields.specs.Counts.{Rose}
use Rattle.esdk_fields.specs.declared.contents.Content.{Content}
use Rattle.esdk_fields.specs.declared.contents.Content.TheVariants.{Single, Framed}
use Rattle.esdk_fields.specs.declared.faults.Fault.{Fault}
use Rattle.esdk_fields.specs.declared.faults.Fault.TheVariants.{Truncated}
use Rattle.esdk_fields.specs.declared.refusals.Outside.TheVariants as outsides
use Rattle.esdk_fields.specs.Place.{Place, start}
use Rattle.esdk_fields.specs.Reading.{Reading, Read, Wanting}
use Rattle.esdk_base.specs.Sink.{AppendsFront}
use Rattle.esdk_base.specs.Streams.{FailsToRead, ShelfState, SinkState}
use Rattle.frame_codec.specs.declared.kinds.UnitKind.{UnitKind}
use Rattle.frame_codec.specs.declared.kinds.UnitKind.TheVariants.{Regular, Final}
use Rattle.frame_codec.specs.declared.kinds.UnitKind.TheVariants as kinds
use Rattle.frame_codec.specs.declared.unit_heads.Head.{Head}
use Rattle.frame_codec.specs.declared.unit_heads.Head.TheVariants as heads
use Rattle.frame_codec.specs.declared.unit_heads.UnitHead.{UnitHead}
use Rattle.frame_codec.specs.InPlace.{unit_size}
use Rattle.frame_codec.specs.Unit.{Piece, More, Last, unit}
use Rattle.frame_codec.specs.UnitHead.{head_of, longest_block}
use Rattle.whole_input.specs.FileReads.{Grows, IsSeenAs}
use Rattle.extract_core.specs.declared.errors.ExtractError.{ExtractError}
use Rattle.extract_core.specs.declared.errors.ExtractError.TheVariants as errors
use Rattle.extract_core.specs.declared.slots.Needs.{Needs}
use Rattle.extract_core.specs.declared.slots.Needs.TheVariants as needs
use Rattle.extract_core.specs.declared.slots.Slots.{Slots}
use Rattle.header_codec.specs.Header.{IsContent, frame_length}
use Rattle.message_format.specs.declared.unlocking.Unlocked.{Unlocked}
use Rattle.extract_core.specs.Extracted.{ByteRange, OpenBody, extracted_body, in_range, last_slot}
use Rattle.extract_core.specs.Extracted.{slot_read, slot_width, slots_taken, unit_fault}

-- ---- the body

-- the body of these bytes, which the slots are opened of
abbrev pub slots_body : Slots → List ℕ → OpenBody
slots_body s bytes = record {
  content = s.content;
  max_unit = s.max_unit;
  key = s.key;
  id = s.message_id;
  bytes = bytes;
}

-- the body in a file of these bytes
abbrev pub body_in : Slots → List ℕ → OpenBody
body_in s told = slots_body s (drop s.begin told)

-- It is the same body of the same message.
pub record SlotsKeepBody (old new : Slots) : Type 0 where
  pub key : new.key ≡ old.key
  pub id : new.message_id ≡ old.message_id
  pub content : new.content ≡ old.content
  pub max_unit : new.max_unit ≡ old.max_unit
  pub begin : new.begin ≡ old.begin

-- ---- one unit

-- what is known of the unit of this number that begins with these bytes
abbrev pub known : Slots → ℕ → List ℕ → Head
known s want bytes = head_of s.content want s.max_unit bytes

-- what is read of it
abbrev pub unit_read : Slots → ℕ → List ℕ → Reading Piece
unit_read s want bytes = unit s.content s.max_unit s.key s.message_id want (start bytes)

-- No byte behind the unit is held.
abbrev pub HoldsNoMore : Slots → ℕ → List ℕ → Type 0
HoldsNoMore s want held = (head : UnitHead) → known s want held ≡ heads.Unit head
    → length held ≤ unit_size head

-- how many bytes are read for a unit in any case: a slot's width, and of a single block its head
abbrev pub least_room : Content → ℕ
least_room Single = 20
least_room (Framed frame) = slot_width (Framed frame)

-- how many are read at the most, by what is known of its head: behind a good one all of the unit
abbrev pub head_room : Content → Head → ℕ
head_room content (heads.NeedMore end) = least_room content
head_room content (heads.Refused fault) = least_room content
head_room content (heads.Unit head) = max (least_room content) (unit_size head)

-- More bytes are needed, up to this end: the unit isn't whole, and with no more than these bytes
-- none behind it is held.
pub record NeedsBytes (s : Slots) (want end : ℕ) : Type 0 where
  pub more : length s.unit.held < end
  pub few : end ≤ 2 ^ 37
  pub room : (more : List ℕ) → end ≤ head_room s.content (known s want (s.unit.held ++ more))
  pub wanting : unit_read s want s.unit.held ≡ Wanting
  pub within : (bytes : List ℕ) → length (s.unit.held ++ bytes) ≤ end
      → HoldsNoMore s want (s.unit.held ++ bytes)

-- The unit behind this head is there, and nothing behind it.
pub record IsThere (s : Slots) (want : ℕ) (head : UnitHead) : Type 0 where
  pub known : known s want s.unit.held ≡ heads.Unit head
  pub whole : length s.unit.held ≡ unit_size head
  pub short : head.length ≤ longest_block

-- what the open unit needs
abbrev pub NeedsAre : Slots → ℕ → Needs → Type 0
NeedsAre s want (needs.Refused fault) = known s want s.unit.held ≡ heads.Refused fault
NeedsAre s want (needs.Bytes end) = NeedsBytes s want end
NeedsAre s want (needs.Nothing head) = IsThere s want head

-- ---- its bytes

-- how many bytes of the file were read, of those that are held or read ahead
abbrev pub slots_read_count : Slots → ℕ
slots_read_count s = length s.unit.held + length s.ahead

-- The bytes held, and those read ahead behind them, stand in the file from that offset on.
pub record SlotsStandAt (s : Slots) (told : List ℕ) (at : ℕ) : Type 0 where
  pub front : drop at told ≡ (s.unit.held ++ s.ahead) ++ drop (at + slots_read_count s) told

-- More of the file may have been read, up to a slot's width or to this end of the unit, and what is
-- held and read ahead still stands there.
pub record TakesOn (old new : Slots) (before after : ShelfState) (name : List ℕ) (at end : ℕ)
    : Type 0 where
  pub same : SlotsKeepBody old new
  pub files : after.files ≡ before.files
  pub grown : Grows before.calls after.calls
  pub later : before.faults ≤ after.faults
  pub on : slots_read_count old ≤ slots_read_count new
  pub given : after.given ≤ before.given + (slots_read_count new - slots_read_count old)
  pub reach : slots_read_count new ≤ max (slots_read_count old) (max end (slot_width old.content))
  pub stands : (told : List ℕ) → IsSeenAs before after name told → SlotsStandAt old told at
      → SlotsStandAt new told at

-- More bytes are held, up to this end at the most, and no read failed.
pub record TakesMore (old new : Slots) (before after : ShelfState) (end : ℕ) : Type 0 where
  pub bytes : List ℕ
  pub grown : new.unit.held ≡ old.unit.held ++ bytes
  pub some : 1 ≤ length bytes
  pub most : length new.unit.held ≤ end
  pub faults : after.faults ≡ before.faults

-- Why no more bytes are held: the file ends behind those, or a read failed; or memory ran out, and
-- no read failed.
abbrev pub TakesNoSlot : Slots → ShelfState → ShelfState → List ℕ → ℕ → ExtractError → Type 0
TakesNoSlot old before after name at (errors.Fault fault) = (fault ≡ Truncated)
    × (after.faults ≡ before.faults)
    × ((told : List ℕ) → IsSeenAs before after name told → SlotsStandAt old told at
    → drop at told ≡ old.unit.held)
TakesNoSlot old before after name at (errors.Outside outsides.ShelfFault) =
    FailsToRead before after name
TakesNoSlot old before after name at (errors.Outside outside) = ⊥
TakesNoSlot old before after name at errors.Memory = after.faults ≡ before.faults

-- ---- its content

abbrev pub is_last : UnitKind → Bool
is_last Regular = false
is_last Final = true
is_last kinds.Single = true

-- a content that others follow, or the last
abbrev pub piece_at : Bool → List ℕ → Piece
piece_at false content = More content
piece_at true content = Last content

-- What is read is this content.
pub record IsUnitRead (r : Reading Piece) (last : Bool) (content : List ℕ) : Type 0 where
  pub next : Place
  pub is : r ≡ Read (piece_at last content) next

-- A content has at most the frame length, and a single block is the last unit.
pub record ContentIsSized (content : Content) (last : Bool) (out : List ℕ) : Type 0 where
  pub few : length out ≤ 2 ^ 37
  pub frame : (frame : ℕ) → content ≡ Framed frame → length out ≤ frame
  pub single : content ≡ Single → last ≡ true

-- how many bytes are read for one unit at the most: for a frame 40 beside its content; for a single
-- block what its head says, and no more than there is
abbrev pub unit_reach : Content → Option ℕ → List ℕ → ℕ
unit_reach Single max_unit bytes =
    min (head_room Single (head_of Single 1 max_unit bytes)) (length bytes)
unit_reach (Framed frame) max_unit bytes = frame + 40

-- Where others follow the unit, no more than a slot's width was read for it.
abbrev pub ReadsWidth : Content → ShelfState → ShelfState → List ℕ → Bool → Type 0
ReadsWidth content before after name last = last ≡ false → (told : List ℕ)
    → IsSeenAs before after name told → after.given ≤ before.given + slot_width content

-- The unit of this number stands at that offset of the file, and its content was opened.
pub record TakesUnit (old new : Slots) (before after : ShelfState) (name : List ℕ) (at want : ℕ)
    (last : Bool) : Type 0 where
  pub read : (told : List ℕ) → IsSeenAs before after name told
      → IsUnitRead (unit_read old want (drop at told)) last new.unit.out
  pub empty : new.unit.held ≡ []
  pub faults : after.faults ≡ before.faults
  pub grown : Grows before.calls after.calls
  pub sized : ContentIsSized old.content last new.unit.out
  pub width : ReadsWidth old.content before after name last

-- Why no unit is opened: what is read there isn't a good unit, and has this fault; or a read
-- failed; or memory ran out, and no read failed.
abbrev pub UnitFails : (List ℕ → Reading Piece) → ShelfState → ShelfState → List ℕ → ExtractError
    → Type 0
UnitFails read before after name (errors.Fault fault) = (after.faults ≡ before.faults)
    × ((told : List ℕ) → IsSeenAs before after name told → unit_fault (read told) ≡ Some fault)
UnitFails read before after name (errors.Outside outsides.ShelfFault) =
    FailsToRead before after name
UnitFails read before after name (errors.Outside outside) = ⊥
UnitFails read before after name errors.Memory = after.faults ≡ before.faults

-- What reading one unit at that offset leaves, however it ends.
pub record ReadsUnit (old new : Slots) (before after : ShelfState) (name : List ℕ) (at : ℕ)
    : Type 0 where
  pub same : SlotsKeepBody old new
  pub files : after.files ≡ before.files
  pub grown : Grows before.calls after.calls
  pub later : before.faults ≤ after.faults
  pub given : (told : List ℕ) → IsSeenAs before after name told
      → after.given ≤ before.given + unit_reach old.content old.max_unit (drop at told)

-- ---- the slots of a range

-- the number of the first byte of a slot's content
abbrev pub first_byte : Content → ℕ → ℕ
first_byte content slot = slot * frame_length content

-- The slot stands in the file behind the body's begin, and its content was opened.
pub record TakesSlot (old new : Slots) (before after : ShelfState) (name : List ℕ) (slot : ℕ)
    (last : Bool) : Type 0 where
  pub numbered : slot ≤ last_slot
  pub read : (told : List ℕ) → IsSeenAs before after name told
      → IsUnitRead (slot_read (slots_body old (drop old.begin told)) slot) last new.unit.out
  pub empty : new.unit.held ≡ []
  pub faults : after.faults ≡ before.faults
  pub grown : Grows before.calls after.calls
  pub sized : ContentIsSized old.content last new.unit.out
  pub width : ReadsWidth old.content before after name last

-- what reading one slot leaves, however it ends
pub record ReadsSlot (old new : Slots) (before after : ShelfState) (name : List ℕ) : Type 0 where
  pub same : SlotsKeepBody old new
  pub files : after.files ≡ before.files
  pub grown : Grows before.calls after.calls
  pub later : before.faults ≤ after.faults
  pub given : (told : List ℕ) → IsSeenAs before after name told
      → after.given ≤ before.given + unit_reach old.content old.max_unit (drop old.begin told)

-- The slot was taken, and what the range has of its content was written: so many bytes.
pub record WritesSlot (old new : Slots) (range : ByteRange) (before after : ShelfState)
    (name : List ℕ) (output put : SinkState) (slot written : ℕ) (last : Bool) : Type 0 where
  pub takes : TakesSlot old new before after name slot last
  pub gained : Appends output.written put.written
      (in_range range (first_byte old.content slot) new.unit.out)
  pub count : written ≡ length (in_range range (first_byte old.content slot) new.unit.out)
  pub later : output.faults ≤ put.faults

-- The slot was taken, and the output failed at a front of what the range has of its content.
pub record PartFails (old new : Slots) (range : ByteRange) (before after : ShelfState)
    (name : List ℕ) (output put : SinkState) (slot : ℕ) : Type 0 where
  pub last : Bool
  pub takes : TakesSlot old new before after name slot last
  pub rose : Rose output.faults put.faults
  pub front : AppendsFront output.written put.written
      (in_range range (first_byte old.content slot) new.unit.out)

-- Why the slot isn't written: it isn't taken, and the output is as before; or the output failed.
abbrev pub SlotFails : Slots → Slots → ByteRange → ShelfState → ShelfState → List ℕ → SinkState
    → SinkState → ℕ → ExtractError → Type 0
SlotFails old new range before after name output put slot error =
    (UnitFails (λ told. slot_read (body_in old told) slot) before after name error
    × (put ≡ output))
    ⊎ ((error ≡ errors.Outside outsides.SinkFault)
    × PartFails old new range before after name output put slot)

-- how many bytes are read of a body for so many slots of a range at the most: the width of each but
-- the last, and what that has; none, where the range is empty
abbrev pub slots_reach : Content → Option ℕ → ByteRange → List ℕ → ℕ → ℕ
slots_reach content max_unit range bytes slots = if range.count == 0 then 0
    else (slots - 1) * slot_width content + unit_reach content max_unit bytes

-- how many are read of it for the range at the most: those of the slots that are taken
abbrev pub range_reach : OpenBody → ByteRange → ℕ
range_reach b range = slots_reach b.content b.max_unit range b.bytes (slots_taken b range)

-- The part of the range was written, and so many bytes are in it.
pub record WritesRange (b : OpenBody) (range : ByteRange) (output put : SinkState) (written : ℕ)
    : Type 0 where
  pub fault : (extracted_body b range).fault ≡ None
  pub gained : Appends output.written put.written (extracted_body b range).part
  pub count : written ≡ length (extracted_body b range).part

-- The part of the range that stands before a fault was written.
pub record SlotsFindFault (b : OpenBody) (range : ByteRange) (output put : SinkState)
    (fault : Fault)
    : Type 0 where
  pub fault_is : (extracted_body b range).fault ≡ Some fault
  pub gained : Appends output.written put.written (extracted_body b range).part

-- this is so of the body in the file, where the shelf tells it; and in any bytes that agree with
-- what its reads gave between the two moments
abbrev pub OnBody : Slots → ShelfState → ShelfState → List ℕ → (OpenBody → Type 0) → Type 0
OnBody s before after name so =
    (told : List ℕ) → IsSeenAs before after name told → so (body_in s told)

-- The slots are those of the body that begins there behind a header that is unlocked; none is read.
pub record AreSlotsOf (opened : Unlocked) (begin : ℕ) (max_unit : Option ℕ) (s : Slots)
    : Type 0 where
  pub key : s.key ≡ opened.key
  pub id : s.message_id ≡ opened.lock.message_id
  pub content : s.content ≡ opened.lock.content
  pub limit : s.max_unit ≡ max_unit
  pub first : s.begin ≡ begin
  pub none : s.unit.held ≡ []
  pub is_content : IsContent s.content

-- A front of the range's part was written.
abbrev pub WritesFrontOf : ByteRange → SinkState → SinkState → OpenBody → Type 0
WritesFrontOf range output put b =
    AppendsFront output.written put.written (extracted_body b range).part

-- Why the range isn't written to its end, and what was: its part before the slot that has a fault,
-- or a front of its part. Where it isn't a read that failed, none did.
abbrev pub RangeFails : Slots → ByteRange → ShelfState → ShelfState → List ℕ → SinkState
    → SinkState → ExtractError → Type 0
RangeFails s range before after name output put (errors.Fault fault) =
    (after.faults ≡ before.faults)
    × OnBody s before after name (λ b. SlotsFindFault b range output put fault)
RangeFails s range before after name output put (errors.Outside outsides.ShelfFault) =
    FailsToRead before after name
    × OnBody s before after name (WritesFrontOf range output put)
RangeFails s range before after name output put (errors.Outside outsides.SinkFault) =
    (after.faults ≡ before.faults) × Rose output.faults put.faults
    × OnBody s before after name (WritesFrontOf range output put)
RangeFails s range before after name output put (errors.Outside outside) = ⊥
RangeFails s range before after name output put errors.Memory =
    (after.faults ≡ before.faults)
    × OnBody s before after name (WritesFrontOf range output put)
