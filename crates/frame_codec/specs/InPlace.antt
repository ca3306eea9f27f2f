-- What a unit is read as, by what a caller sees who fills a buffer with its bytes and opens it
-- there: the answer of `judge_head`, how many bytes are there, and what opens of them. Standard:
-- AWS Encryption SDK Specification, message body.
use Rattle.std.specs.Prelude.{◌≡◌, ℕ, ◌+◌, ◌<◌, ◌≤◌, List, length, Option, Some, None}
use Rattle.esdk_fields.specs.declared.faults.Fault.{Fault}
use Rattle.esdk_fields.specs.declared.faults.Fault.TheVariants.{UnitTag}
use Rattle.esdk_fields.specs.declared.contents.Content.{Content}
use Rattle.esdk_fields.specs.Place.{start, past}
use Rattle.esdk_fields.specs.Reading.{Reading, Read, Refused, Wanting}
use Rattle.frame_codec.specs.declared.unit_heads.UnitHead.{UnitHead}
use Rattle.frame_codec.specs.declared.unit_heads.Head.TheVariants as heads
use Rattle.frame_codec.specs.UnitHead.{head_of}
use Rattle.frame_codec.specs.Unit.{Piece, piece_of, unit}
use Rattle.frame_codec.specs.UnitBuffer.{opened_of}

-- how many bytes the unit behind this head has, its tag included
abbrev pub unit_size : UnitHead → ℕ
unit_size head = head.size + head.length + 16

-- what a whole unit is read as, by what opens of it
abbrev pub whole_reading : UnitHead → List ℕ → Option (List ℕ) → Reading Piece
whole_reading head bytes (Some text) =
    Read (piece_of head.kind text) (past (unit_size head) (start bytes))
whole_reading head bytes None =
    Refused (UnitTag head.number) (past (unit_size head) (start bytes)).at

-- The unit that has this number, under a derived key and a message id, at these bytes.
pub record IsReadInPlace (content : Content) (max_unit : Option ℕ) (key id : List ℕ) (want : ℕ)
    (bytes : List ℕ) : Type 0 where
  -- more bytes are needed before its content
  pub needs : (n : ℕ) → head_of content want max_unit bytes ≡ heads.NeedMore n
      → unit content max_unit key id want (start bytes) ≡ Wanting
  -- a field before its content has a fault
  pub fault : (fault : Fault) → head_of content want max_unit bytes ≡ heads.Refused fault
      → (at : ℕ) × (unit content max_unit key id want (start bytes) ≡ Refused fault at)
  -- not all of its content and tag is there
  pub short : (head : UnitHead) → head_of content want max_unit bytes ≡ heads.Unit head
      → length bytes < unit_size head
      → unit content max_unit key id want (start bytes) ≡ Wanting
  -- all of it is there: its content is what opens, and where nothing opens it has the fault M20
  pub whole : (head : UnitHead) → head_of content want max_unit bytes ≡ heads.Unit head
      → unit_size head ≤ length bytes
      → unit content max_unit key id want (start bytes)
      ≡ whole_reading head bytes (opened_of key id head bytes)

abbrev pub ReadsInPlace : Type 0
ReadsInPlace = (content : Content) (max_unit : Option ℕ) (key id : List ℕ) (want : ℕ)
    (bytes : List ℕ)
    → IsReadInPlace content max_unit key id want bytes
