-- What stands before a unit's content, and what is judged at the last byte of each field. Standard:
-- AWS Encryption SDK Specification, message body, "Regular Frame", "Final Frame", "Single Block";
-- the faults M9, M18, M19 and M21 are this library's.
use Rattle.std.specs.Prelude.{ℕ, List, length, take, Bool, not, ◌==◌, nat_lt, if◌then◌else◌, Option}
use Rattle.std.specs.Int.{w32, w64}
use Rattle.esdk_fields.specs.declared.faults.Fault.TheVariants.{WrongSequence, FinalTooLong}
use Rattle.esdk_fields.specs.declared.faults.Fault.TheVariants.{BlockTooLong, UnitTooLong}
use Rattle.esdk_fields.specs.declared.contents.Content.{Content}
use Rattle.esdk_fields.specs.declared.contents.Content.TheVariants as contents
use Rattle.esdk_fields.specs.Limits.{is_over}
use Rattle.esdk_fields.specs.Place.{start}
use Rattle.esdk_fields.specs.Numbers.{from_big_endian}
use Rattle.esdk_fields.specs.Reading.{Reading, Read, Refused, Wanting, FieldReader, ◌>>=◌, ◌>>◌}
use Rattle.esdk_fields.specs.Reading.{done, bytes, number, refuse_if}
use Rattle.frame_codec.specs.declared.kinds.UnitKind.{UnitKind}
use Rattle.frame_codec.specs.declared.kinds.UnitKind.TheVariants as kinds
use Rattle.frame_codec.specs.declared.unit_heads.UnitHead.{UnitHead}
use Rattle.frame_codec.specs.declared.unit_heads.Head.{Head}
use Rattle.frame_codec.specs.declared.unit_heads.Head.TheVariants as heads

-- "Sequence Number End": FF FF FF FF, which stands before the number of a final frame and is the
-- number of no regular one
abbrev pub final_mark : ℕ
final_mark = 4294967295

-- the most bytes that AES-GCM takes under one initialization vector
abbrev pub longest_block : ℕ
longest_block = 68719476704

-- a regular frame, behind its number
unfoldable pub regular_start : ℕ → ℕ → ℕ → FieldReader UnitHead
regular_start want frame got = do
  refuse_if (not (got == want)) (WrongSequence want got)
  iv ← bytes 12
  done (record { kind = kinds.Regular; number = want; iv = iv; length = frame; size = 16 })

-- a final frame, behind its mark
unfoldable pub final_start : ℕ → ℕ → FieldReader UnitHead
final_start want frame = do
  got ← number w32
  refuse_if (not (got == want)) (WrongSequence want got)
  iv ← bytes 12
  size ← number w32
  refuse_if (nat_lt frame size) (FinalTooLong size)
  done (record { kind = kinds.Final; number = want; iv = iv; length = size; size = 24 })

-- a frame
unfoldable pub frame_start : ℕ → ℕ → FieldReader UnitHead
frame_start want frame = do
  got ← number w32
  if got == final_mark then final_start want frame else regular_start want frame got

-- a single block
unfoldable pub block_start : Option ℕ → FieldReader UnitHead
block_start max_unit = do
  iv ← bytes 12
  size ← number w64
  refuse_if (nat_lt longest_block size) (BlockTooLong size)
  refuse_if (is_over max_unit size) (UnitTooLong size)
  done (record { kind = kinds.Single; number = 1; iv = iv; length = size; size = 20 })

-- What stands before the content of the unit that has this number. Frames are limited by the
-- header, and not by `max_unit`.
unfoldable pub unit_head : Content → ℕ → Option ℕ → FieldReader UnitHead
unit_head contents.Single want max_unit = block_start max_unit
unit_head (contents.Framed frame) want max_unit = frame_start want frame

-- this holds, if it is a regular frame
abbrev pub IfRegular : UnitKind → Type 0 → Type 0
IfRegular kinds.Regular fact = fact
IfRegular kinds.Final fact = Unit {0}
IfRegular kinds.Single fact = Unit {0}

-- ---- bytes that come in pieces

-- a frame's first four bytes are the mark
abbrev pub is_final : List ℕ → Bool
is_final bytes = from_big_endian w32 (take 4 bytes) == final_mark

-- how many bytes the next decision needs, where so far there was none or a good number
unfoldable pub needed : Content → List ℕ → ℕ
needed contents.Single bytes = 20
needed (contents.Framed frame) bytes = if nat_lt (length bytes) 4 then 4 else if is_final bytes
    then (if nat_lt (length bytes) 8 then 8 else 24) else 16

abbrev pub head_from : ℕ → Reading UnitHead → Head
head_from n (Read head next) = heads.Unit head
head_from n (Refused fault at) = heads.Refused fault
head_from n Wanting = heads.NeedMore n

-- what is known of the unit that begins with these bytes
unfoldable pub head_of : Content → ℕ → Option ℕ → List ℕ → Head
head_of content want max_unit bytes =
    head_from (needed content bytes) (unit_head content want max_unit (start bytes))

-- this holds of what stands before the content, if all of it is there and good
abbrev pub IfUnit : Head → (UnitHead → Type 0) → Type 0
IfUnit (heads.NeedMore n) fact = Unit {0}
IfUnit (heads.Refused fault) fact = Unit {0}
IfUnit (heads.Unit head) fact = fact head
