-- What the laws of this crate say of units.
use Rattle.std.specs.Prelude.{◌≡◌, ◌≢◌, ◌↔◌, ◌⊎◌, ℕ, ◌+◌, ◌^◌, ◌<◌, ◌≤◌, List, ◌++◌, length, Option}
use Rattle.std.specs.Prelude.{IfSome}
use Rattle.esdk_fields.specs.declared.faults.Fault.{Fault}
use Rattle.esdk_fields.specs.declared.contents.Content.{Content}
use Rattle.esdk_fields.specs.Bytes.{AreBytes}
use Rattle.esdk_fields.specs.Laws.{JudgesInOrder}
use Rattle.esdk_fields.specs.Place.{Place, start, past}
use Rattle.esdk_fields.specs.Reading.{Read, Refused}
use Rattle.frame_codec.specs.declared.kinds.UnitKind.{UnitKind}
use Rattle.frame_codec.specs.declared.unit_heads.Head.TheVariants as heads
use Rattle.frame_codec.specs.UnitAad.{unit_aad}
use Rattle.frame_codec.specs.UnitHead.{final_mark, longest_block, head_of}
use Rattle.frame_codec.specs.Unit.{Piece, More, Last, unit, Under, frame, block_unit}
use Rattle.frame_codec.specs.Written.{regular_frame, final_frame, single_block}
use Rattle.frame_codec.specs.Rows.{NeedsMore, UnitHasFault, HasWrongTag}
use Rattle.frame_codec.specs.Spelled.{UnitIsSpelled}

-- A unit's fault stays when bytes follow, and comes with the last byte of its field, no earlier and
-- no later. So does its content.
abbrev pub JudgesUnitsInOrder : Type 0
JudgesUnitsInOrder = (content : Content) (max_unit : Option ℕ) (key id : List ℕ) (want : ℕ)
    → JudgesInOrder (unit content max_unit key id want)

-- A unit is read exactly where the bytes begin with a spelling of it.
abbrev pub ReadsSpelledUnits : Type 0
ReadsSpelledUnits = (content : Content) (max_unit : Option ℕ) (key id : List ℕ) (want : ℕ)
    (bytes : List ℕ) (piece : Piece) (end : Place) → AreBytes bytes
    → (unit content max_unit key id want (start bytes) ≡ Read piece end)
    ↔ UnitIsSpelled content max_unit key id want bytes piece end

-- A unit is refused exactly where a field before its content has a fault, or its tag is wrong; and
-- at the end of that field.
abbrev pub RefusesFaultyUnits : Type 0
RefusesFaultyUnits = (content : Content) (max_unit : Option ℕ) (key id : List ℕ) (want : ℕ)
    (bytes : List ℕ) (fault : Fault) (at : ℕ)
    → (unit content max_unit key id want (start bytes) ≡ Refused fault at)
    ↔ (UnitHasFault content want max_unit bytes fault at
    ⊎ HasWrongTag content want max_unit key id bytes fault at)

-- ---- what stands before the content

-- More bytes are asked for exactly where a row says so.
abbrev pub AsksForMore : Type 0
AsksForMore = (content : Content) (want : ℕ) (max_unit : Option ℕ) (bytes : List ℕ) (n : ℕ)
    → (head_of content want max_unit bytes ≡ heads.NeedMore n) ↔ NeedsMore content want bytes n

-- A fault is named exactly where a row has it.
abbrev pub NamesFaults : Type 0
NamesFaults = (content : Content) (want : ℕ) (max_unit : Option ℕ) (bytes : List ℕ) (fault : Fault)
    → (head_of content want max_unit bytes ≡ heads.Refused fault)
    ↔ ((at : ℕ) × UnitHasFault content want max_unit bytes fault at)

-- Where n bytes are asked for, fewer are there; as long as fewer are there the answer stays, and
-- once n are there it is another.
pub record DecidesWithThese (content : Content) (want : ℕ) (max_unit : Option ℕ) (bytes : List ℕ)
    (n : ℕ) : Type 0 where
  pub fewer : length bytes < n
  pub no_earlier : (more : List ℕ) → length (bytes ++ more) < n
      → head_of content want max_unit (bytes ++ more) ≡ heads.NeedMore n
  pub no_later : (more : List ℕ) → n ≤ length (bytes ++ more)
      → head_of content want max_unit (bytes ++ more) ≢ heads.NeedMore n

abbrev pub DecidesWithNeededBytes : Type 0
DecidesWithNeededBytes = (content : Content) (want : ℕ) (max_unit : Option ℕ) (bytes : List ℕ)
    (n : ℕ) → head_of content want max_unit bytes ≡ heads.NeedMore n
    → DecidesWithThese content want max_unit bytes n

-- ---- what is written

-- Frame k, counted from 0, is read back at any offset, whatever follows it.
abbrev pub ReadsBackRegularFrames : Type 0
ReadsBackRegularFrames = (frame_length : ℕ) (u : Under) (k : ℕ) (text more : List ℕ) (at : ℕ)
    → k + 1 < final_mark → length text ≡ frame_length
    → frame frame_length u k (record { at = at; left = regular_frame u (k + 1) text ++ more })
    ≡ Read (More text) (record { at = at + (length text + 32); left = more })

abbrev pub ReadsBackFinalFrames : Type 0
ReadsBackFinalFrames = (frame_length : ℕ) (u : Under) (k : ℕ) (text more : List ℕ) (at : ℕ)
    → k + 1 < 2 ^ 32 → length text ≤ frame_length → length text < 2 ^ 32
    → frame frame_length u k (record { at = at; left = final_frame u (k + 1) text ++ more })
    ≡ Read (Last text) (record { at = at + (length text + 40); left = more })

abbrev pub ReadsBackSingleBlocks : Type 0
ReadsBackSingleBlocks = (max_unit : Option ℕ) (key id iv text more : List ℕ) (at : ℕ)
    → length iv ≡ 12 → length text ≤ longest_block → IfSome max_unit (λ most. length text ≤ most)
    → block_unit max_unit key id (record { at = at; left = single_block key id iv text ++ more })
    ≡ Read (Last text) (record { at = at + (length text + 36); left = more })

-- ---- sizes

-- Each regular frame has the frame length, and 32 bytes more.
abbrev pub HaveOneSize : Type 0
HaveOneSize = (frame_length : ℕ) (u : Under) (k : ℕ) (p : Place) (x : List ℕ) (next : Place)
    → frame frame_length u k p ≡ Read (More x) next
    → (length x ≡ frame_length) × (frame_length + 32 ≤ length p.left)
    × (next ≡ past (frame_length + 32) p)

abbrev pub HasRegularSize : Type 0
HasRegularSize = (u : Under) (number : ℕ) (text : List ℕ)
    → length (regular_frame u number text) ≡ length text + 32

abbrev pub HasFinalSize : Type 0
HasFinalSize =
    (u : Under) (number : ℕ) (text : List ℕ) → length (final_frame u number text) ≡ length text + 40

abbrev pub HasBlockSize : Type 0
HasBlockSize = (key id iv text : List ℕ) → length iv ≡ 12
    → length (single_block key id iv text) ≡ length text + 36

-- ---- the associated data

-- Two units whose message ids are equally long have the same associated data only where they are
-- alike in all that it is made of.
abbrev pub TellsUnitsApart : Type 0
TellsUnitsApart = (id other : List ℕ) (kind next : UnitKind) (m n size length_of : ℕ)
    → length id ≡ length other → m < 2 ^ 32 → n < 2 ^ 32 → size < 2 ^ 64 → length_of < 2 ^ 64
    → unit_aad id kind m size ≡ unit_aad other next n length_of
    → (id ≡ other) × (kind ≡ next) × (m ≡ n) × (size ≡ length_of)
