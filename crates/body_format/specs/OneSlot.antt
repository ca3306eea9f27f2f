-- One slot of a body, read alone by the bytes from there on, and what it says of the whole body.
-- Standard: AWS Encryption SDK Specification, message body, "Regular Frame", "Final Frame",
-- "Single Block".
use Rattle.std.specs.Prelude.{◌≡◌, ℕ, ◌+◌, ◌≤◌, List, length, false, Option, Some, None}
use Rattle.esdk_fields.specs.Place.{Place}
use Rattle.esdk_fields.specs.Reading.{Reading, Read, Refused, Wanting}
use Rattle.frame_codec.specs.Unit.{Piece, More, Last, Under, frame, block_unit}
use Rattle.body_format.specs.Rows.{is_more, verdict_of, slot}
use Rattle.body_format.specs.Body.{beside_content, judged_frames}
use Rattle.body_format.specs.Table.{slot_bytes, good_regular, good_final, framed_verdict}
use Rattle.body_format.specs.Table.{decided_at, good_block, block_verdict}
use Rattle.body_format.specs.Laws.{IsFirst}

-- the content of a unit that others follow
abbrev pub more_in : Reading Piece → Option (List ℕ)
more_in (Read (More content) next) = Some content
more_in (Read (Last content) next) = None
more_in (Refused fault at) = None
more_in Wanting = None

-- the content of a last unit
abbrev pub last_in : Reading Piece → Option (List ℕ)
last_in (Read (More content) next) = None
last_in (Read (Last content) next) = Some content
last_in (Refused fault at) = None
last_in Wanting = None

-- What is read of frame k is what the table says of the bytes: a good regular slot, a good final
-- slot, and where it isn't a good regular one, the verdict.
pub record IsTabled (frame_length : ℕ) (u : Under) (k : ℕ) (bytes : List ℕ) (r : Reading Piece)
    : Type 0 where
  pub regular : more_in r ≡ good_regular frame_length u k bytes
  pub last : last_in r ≡ good_final frame_length u k bytes
  pub verdict : is_more r ≡ false → verdict_of r ≡ framed_verdict frame_length u k bytes

-- What is read of a block is what the table says of the bytes.
pub record IsTabledBlock (max_unit : Option ℕ) (key id bytes : List ℕ) (r : Reading Piece)
    : Type 0 where
  pub last : last_in r ≡ good_block max_unit key id bytes
  pub verdict : verdict_of r ≡ block_verdict max_unit key id bytes

-- ---- the laws

-- The frame at any place is read alone, by the bytes from there on, as the table says of frame k;
-- and so is slot k of a body, wherever that begins and whatever stands in the slots before.
pub record AreReadAlone (frame_length : ℕ) (u : Under) (p : Place) (k : ℕ) : Type 0 where
  pub frame_is : IsTabled frame_length u k p.left (frame frame_length u k p)
  pub slot_is : IsTabled frame_length u k (slot_bytes frame_length p.left k)
      (slot (frame_length + beside_content) (frame frame_length u) p k)

abbrev pub ReadsSlotsAlone : Type 0
ReadsSlotsAlone =
    (frame_length : ℕ) (u : Under) (p : Place) (k : ℕ) → AreReadAlone frame_length u p k

abbrev pub ReadsBlocksAlone : Type 0
ReadsBlocksAlone = (max_unit : Option ℕ) (key id : List ℕ) (p : Place)
    → IsTabledBlock max_unit key id p.left (block_unit max_unit key id p)

-- Where the slots before it are good regular ones, and it isn't one, a slot decides of the whole
-- body.
abbrev pub DecidesForAll : Type 0
DecidesForAll = (frame_length : ℕ) (u : Under) (p : Place) (n : ℕ)
    → IsFirst frame_length u p.left n
    → judged_frames frame_length u p ≡ decided_at frame_length u p.left n

-- The content of a good regular slot has the frame length, so byte i of the content of slot k is
-- byte k * frame_length + i of the body's; that of a good final slot has at most so many bytes.
abbrev pub FillsRegularSlots : Type 0
FillsRegularSlots = (frame_length : ℕ) (u : Under) (k : ℕ) (bytes text : List ℕ)
    → good_regular frame_length u k bytes ≡ Some text → length text ≡ frame_length

abbrev pub KeepsFinalSlotsShort : Type 0
KeepsFinalSlotsShort = (frame_length : ℕ) (u : Under) (k : ℕ) (bytes text : List ℕ)
    → good_final frame_length u k bytes ≡ Some text → length text ≤ frame_length
