-- What each reader does after its first steps.
use Rattle.std.specs.Prelude.{ℕ, List, not, ◌==◌, nat_lt, if◌then◌else◌, Option}
use Rattle.std.specs.Int.{w32, w64}
use Rattle.esdk_fields.specs.declared.faults.Fault.TheVariants.{WrongSequence, FinalTooLong, BlockTooLong, UnitTooLong, UnitTag}
use Rattle.esdk_fields.specs.Reading.{FieldReader, ◌>>=◌, ◌>>◌, done, bytes, number, refuse_if}
use Rattle.frame_codec.specs.declared.kinds.UnitKind.TheVariants as kinds
use Rattle.frame_codec.specs.declared.unit_heads.UnitHead.{UnitHead}
use Rattle.esdk_fields.specs.Limits.{is_over}
use Rattle.frame_codec.specs.UnitHead.{final_mark, longest_block, regular_start, final_start}
use Rattle.frame_codec.specs.Unit.{Piece, piece_of, opens, opened_unit}

abbrev pub made_regular : ℕ → ℕ → List ℕ → UnitHead
made_regular want frame_length iv = record { kind = kinds.Regular; number = want; iv = iv; length = frame_length; size = 16 }

abbrev pub made_final : ℕ → List ℕ → ℕ → UnitHead
made_final want iv size = record { kind = kinds.Final; number = want; iv = iv; length = size; size = 24 }

abbrev pub made_block : List ℕ → ℕ → UnitHead
made_block iv size = record { kind = kinds.Single; number = 1; iv = iv; length = size; size = 20 }

abbrev pub after_length : ℕ → ℕ → List ℕ → ℕ → FieldReader UnitHead
after_length want frame_length iv size = do
  refuse_if (nat_lt frame_length size) (FinalTooLong size)
  done (made_final want iv size)

abbrev pub after_iv : ℕ → ℕ → List ℕ → FieldReader UnitHead
after_iv want frame_length iv = do
  size ← number w32
  after_length want frame_length iv size

abbrev pub after_final_number : ℕ → ℕ → ℕ → FieldReader UnitHead
after_final_number want frame_length got = do
  refuse_if (not (got == want)) (WrongSequence want got)
  iv ← bytes 12
  after_iv want frame_length iv

abbrev pub after_number : ℕ → ℕ → ℕ → FieldReader UnitHead
after_number want frame_length got = if got == final_mark then final_start want frame_length else regular_start want frame_length got

abbrev pub after_block_length : Option ℕ → List ℕ → ℕ → FieldReader UnitHead
after_block_length max_unit iv size = do
  refuse_if (nat_lt longest_block size) (BlockTooLong size)
  refuse_if (is_over max_unit size) (UnitTooLong size)
  done (made_block iv size)

abbrev pub after_block_iv : Option ℕ → List ℕ → FieldReader UnitHead
after_block_iv max_unit iv = do
  size ← number w64
  after_block_length max_unit iv size

abbrev pub after_tag : List ℕ → List ℕ → UnitHead → List ℕ → List ℕ → FieldReader Piece
after_tag key id head cipher tag = do
  text ← opens (opened_unit key id head cipher tag) (UnitTag head.number)
  done (piece_of head.kind text)

abbrev pub after_cipher : List ℕ → List ℕ → UnitHead → List ℕ → FieldReader Piece
after_cipher key id head cipher = do
  tag ← bytes 16
  after_tag key id head cipher tag

-- a unit's content and tag, behind what stands before them
abbrev pub after_head : List ℕ → List ℕ → UnitHead → FieldReader Piece
after_head key id head = do
  cipher ← bytes head.length
  after_cipher key id head cipher
