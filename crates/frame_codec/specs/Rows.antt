-- Units row by row, without the reader: which bytes need more, and which have a fault. Standard:
-- AWS Encryption SDK Specification, message body, "Regular Frame", "Final Frame", "Single Block";
-- the faults M9, M18 to M21 are this library's.
use Rattle.std.specs.Prelude.{◌≡◌, ◌≢◌, ℕ, ◌+◌, ◌<◌, ◌≤◌, List, length, take, drop, Option, None}
use Rattle.std.specs.Prelude.{IsSomeAnd}
use Rattle.std.specs.Int.{w32, w64}
use Rattle.esdk_fields.specs.declared.faults.Fault.{Fault}
use Rattle.esdk_fields.specs.declared.faults.Fault.TheVariants.{WrongSequence, FinalTooLong}
use Rattle.esdk_fields.specs.declared.faults.Fault.TheVariants.{BlockTooLong, UnitTooLong, UnitTag}
use Rattle.esdk_fields.specs.declared.contents.Content.{Content}
use Rattle.esdk_fields.specs.declared.contents.Content.TheVariants.{Single, Framed}
use Rattle.esdk_fields.specs.Numbers.{from_big_endian}
use Rattle.frame_codec.specs.declared.unit_heads.UnitHead.{UnitHead}
use Rattle.frame_codec.specs.declared.unit_heads.Head.TheVariants as heads
use Rattle.frame_codec.specs.UnitHead.{final_mark, longest_block, head_of}
use Rattle.frame_codec.specs.Unit.{opened_unit}

-- the number of four bytes at that offset
abbrev pub number_at : ℕ → List ℕ → ℕ
number_at n bytes = from_big_endian w32 (take 4 (drop n bytes))

-- the number of eight bytes at that offset
abbrev pub long_number_at : ℕ → List ℕ → ℕ
long_number_at n bytes = from_big_endian w64 (take 8 (drop n bytes))

-- These bytes are fewer than the n that the next decision needs.
pub data NeedsMore (content : Content) (want : ℕ) (bytes : List ℕ) (n : ℕ) : Type 0 where
  -- a frame's number, or the mark
  ForNumber : (frame : ℕ) → content ≡ Framed frame → n ≡ 4 → length bytes < 4
      → NeedsMore content want bytes n
  -- the initialization vector of a regular frame
  ForRegular : (frame : ℕ) → content ≡ Framed frame → n ≡ 16 → 4 ≤ length bytes → length bytes < 16
      → number_at 0 bytes ≢ final_mark → number_at 0 bytes ≡ want
      → NeedsMore content want bytes n
  -- the number of a final frame
  ForFinalNumber : (frame : ℕ) → content ≡ Framed frame → n ≡ 8 → 4 ≤ length bytes
      → length bytes < 8 → number_at 0 bytes ≡ final_mark → NeedsMore content want bytes n
  -- the initialization vector and the length of a final frame
  ForFinal : (frame : ℕ) → content ≡ Framed frame → n ≡ 24 → 8 ≤ length bytes → length bytes < 24
      → number_at 0 bytes ≡ final_mark → number_at 4 bytes ≡ want
      → NeedsMore content want bytes n
  -- the initialization vector and the length of a single block
  ForBlock : content ≡ Single → n ≡ 20 → length bytes < 20 → NeedsMore content want bytes n

-- The field before the content that ends at this offset has this fault.
pub data UnitHasFault (content : Content) (want : ℕ) (max_unit : Option ℕ) (bytes : List ℕ)
    (fault : Fault) (at : ℕ) : Type 0 where
  OtherNumber : (frame : ℕ) → content ≡ Framed frame → 4 ≤ length bytes
      → number_at 0 bytes ≢ final_mark → number_at 0 bytes ≢ want
      → fault ≡ WrongSequence want (number_at 0 bytes) → at ≡ 4
      → UnitHasFault content want max_unit bytes fault at
  OtherFinalNumber : (frame : ℕ) → content ≡ Framed frame → 8 ≤ length bytes
      → number_at 0 bytes ≡ final_mark → number_at 4 bytes ≢ want
      → fault ≡ WrongSequence want (number_at 4 bytes) → at ≡ 8
      → UnitHasFault content want max_unit bytes fault at
  LongFinal : (frame : ℕ) → content ≡ Framed frame → 24 ≤ length bytes
      → number_at 0 bytes ≡ final_mark → number_at 4 bytes ≡ want → frame < number_at 20 bytes
      → fault ≡ FinalTooLong (number_at 20 bytes) → at ≡ 24
      → UnitHasFault content want max_unit bytes fault at
  LongBlock : content ≡ Single → 20 ≤ length bytes → longest_block < long_number_at 12 bytes
      → fault ≡ BlockTooLong (long_number_at 12 bytes) → at ≡ 20
      → UnitHasFault content want max_unit bytes fault at
  LimitedBlock : content ≡ Single → 20 ≤ length bytes → long_number_at 12 bytes ≤ longest_block
      → IsSomeAnd max_unit (λ most. most < long_number_at 12 bytes)
      → fault ≡ UnitTooLong (long_number_at 12 bytes) → at ≡ 20
      → UnitHasFault content want max_unit bytes fault at

-- The fields before the content are good, all bytes of the unit are there, and the content doesn't
-- open.
pub record HasWrongTag (content : Content) (want : ℕ) (max_unit : Option ℕ) (key id bytes : List ℕ)
    (fault : Fault) (at : ℕ) : Type 0 where
  pub head : UnitHead
  pub good : head_of content want max_unit bytes ≡ heads.Unit head
  pub whole : head.size + head.length + 16 ≤ length bytes
  pub closed : opened_unit key id head (take head.length (drop head.size bytes))
      (take 16 (drop (head.size + head.length) bytes)) ≡ None
  pub fault_is : fault ≡ UnitTag head.number
  pub end : at ≡ head.size + head.length + 16
