-- A range of a message's content, by the slots that hold it. Each slot is read alone, by the bytes
-- from there on; what stands before the first of them or behind the last isn't looked at.
-- Standard: AWS Encryption SDK Specification, message body, "Framed Data" and "Nonframed Data"; the
-- faults are this library's.
use Rattle.std.specs.Prelude.{ℕ, ◌+◌, ◌-◌, ◌*◌, ◌/◌, List, [], take, drop, min, ◌==◌, nat_lt}
use Rattle.std.specs.Prelude.{if◌then◌else◌, Option, Some, None}
use Rattle.std.specs.List.{flat_map, prefix_len, range_with_len}
use Rattle.esdk_fields.specs.declared.contents.Content.{Content}
use Rattle.esdk_fields.specs.declared.contents.Content.TheVariants.{Single, Framed}
use Rattle.esdk_fields.specs.declared.faults.Fault.{Fault}
use Rattle.esdk_fields.specs.declared.faults.Fault.TheVariants.{Truncated}
use Rattle.esdk_fields.specs.Place.{Place, start}
use Rattle.esdk_fields.specs.Reading.{Reading, Read, Refused, Wanting}
use Rattle.header_codec.specs.declared.settings.Settings.{Settings}
use Rattle.header_codec.specs.Header.{HeaderValue, frame_length}
use Rattle.header_codec.specs.Table.{HeaderFields, header}
use Rattle.suite_table.specs.Keys.{derived}
use Rattle.frame_codec.specs.Unit.{Piece, More, Last, unit}
use Rattle.body_format.specs.Rows.{is_more}
use Rattle.body_format.specs.Body.{beside_content}
use Rattle.keyring_trait.specs.Unlocking.{Unlocking, Refuses, Unlocks}
use Rattle.message_format.specs.Judgement.{header_of, lock_fault}

-- Bytes of the content: from one on, so many.
pub record ByteRange : Type 0 where
  pub at : ℕ
  pub count : ℕ

-- What comes out of a message, and the fault that ends it, if one does.
pub record Extraction : Type 0 where
  pub part : List ℕ
  pub fault : Option Fault

-- ---- slots

-- the body behind a header that is unlocked, and what its units are opened with
pub record OpenBody : Type 0 where
  pub content : Content
  pub max_unit : Option ℕ
  pub key : List ℕ
  pub id : List ℕ
  pub bytes : List ℕ

-- how many bytes of the body a slot has that another one follows; a single block is the one slot
abbrev pub slot_width : Content → ℕ
slot_width Single = 0
slot_width (Framed frame) = frame + beside_content

-- the last slot that has a number of four bytes: slot k has the number k + 1
abbrev pub last_slot : ℕ
last_slot = 4294967294

-- what is read at slot k, of the bytes from there on; behind the last slot nothing is there
unfoldable pub slot_read : OpenBody → ℕ → Reading Piece
slot_read b k =
    if nat_lt last_slot k then Wanting
    else unit b.content b.max_unit b.key b.id (k + 1)
    (start (drop (k * slot_width b.content) b.bytes))

-- the content of a good unit
abbrev pub unit_content : Reading Piece → List ℕ
unit_content (Read (More content) next) = content
unit_content (Read (Last content) next) = content
unit_content (Refused fault at) = []
unit_content Wanting = []

-- why it isn't a good unit: its fault, or M10 where bytes are missing
abbrev pub unit_fault : Reading Piece → Option Fault
unit_fault (Read piece next) = None
unit_fault (Refused fault at) = Some fault
unit_fault Wanting = Some Truncated

-- ---- the range

-- what the range has of these bytes, of which the first is byte `first` of the content
abbrev pub in_range : ByteRange → ℕ → List ℕ → List ℕ
in_range range first bytes = drop (range.at - first) (take (range.at + range.count - first) bytes)

-- the slot of the range's first byte, and how many there are up to that of its last byte
abbrev pub first_slot : Content → ByteRange → ℕ
first_slot Single range = 0
first_slot (Framed frame) range = range.at / frame

abbrev pub slot_count : Content → ByteRange → ℕ
slot_count Single range = 1
slot_count (Framed frame) range = (range.at + range.count - 1) / frame + 1 - range.at / frame

-- how many of these slots are taken: up to the first that no other one follows
unfoldable pub slots_taken : OpenBody → ByteRange → ℕ
slots_taken b range =
    min (prefix_len (λ k. is_more (slot_read b k))
    (range_with_len (first_slot b.content range) (slot_count b.content range)) + 1)
    (slot_count b.content range)

-- what the range has of slot k: byte i of its content is byte k * frame + i of the message's
abbrev pub slot_part : OpenBody → ByteRange → ℕ → List ℕ
slot_part b range k = in_range range (k * frame_length b.content) (unit_content (slot_read b k))

-- the parts of so many slots, and the fault of the last of them
abbrev pub extracted_slots : OpenBody → ByteRange → ℕ → Extraction
extracted_slots b range taken = record {
  part = flat_map (slot_part b range) (range_with_len (first_slot b.content range) taken);
  fault = unit_fault (slot_read b (first_slot b.content range + taken - 1));
}

abbrev pub nothing : Option Fault → Extraction
nothing fault = record { part = []; fault = fault }

-- of the body: no slot is taken for an empty range
unfoldable pub extracted_body : OpenBody → ByteRange → Extraction
extracted_body b range =
    if range.count == 0 then nothing None else extracted_slots b range (slots_taken b range)

-- ---- of all the bytes, when the header is unlocked so

-- the body behind this header, under this data key
abbrev pub body_behind : Settings → HeaderValue → List ℕ → List ℕ → OpenBody
body_behind settings h key bytes = record {
  content = h.content;
  max_unit = settings.max_unit;
  key = derived h.suite key h.message_id;
  id = h.message_id;
  bytes = bytes;
}

abbrev pub extracted_lock : ByteRange → OpenBody → Option Fault → Extraction
extracted_lock range b (Some fault) = nothing (Some fault)
extracted_lock range b None = extracted_body b range

abbrev pub extracted_header : Settings → ByteRange → HeaderValue → Place → Unlocking → Extraction
extracted_header settings range h body (Refuses fault) = nothing (Some fault)
extracted_header settings range h body (Unlocks whole only key) =
    extracted_lock range (body_behind settings h key body.left) (lock_fault h only key)

abbrev pub extracted_reading : List ℕ → Settings → Unlocking → ByteRange → Reading HeaderFields
    → Extraction
extracted_reading bytes settings unlocking range (Refused fault at) = nothing (Some fault)
extracted_reading bytes settings unlocking range Wanting = nothing (Some Truncated)
extracted_reading bytes settings unlocking range (Read parts body) =
    extracted_header settings range (header_of bytes parts) body unlocking

-- What is extracted of a message: a header fault, the answer's fault, and then the lock's, come as
-- in the judgement of all bytes, and a header that isn't whole is M10.
unfoldable pub extracted : List ℕ → Settings → Unlocking → ByteRange → Extraction
extracted bytes settings unlocking range =
    extracted_reading bytes settings unlocking range (header settings (start bytes))
