-- What is taken of a file.
use Rattle.std.specs.Prelude.{◌≡◌, ◌⊎◌, ℕ, ◌+◌, ◌-◌, ◌<◌, ◌≤◌, List, ◌++◌, ◌∷◌, length, [], drop}
use Rattle.std.specs.Prelude.{Bool, true, false, Option, Result, Ok, Err, codes}
use Rattle.esdk_fields.specs.Counts.{RoseBy, counted}
use Rattle.esdk_base.specs.Shelf.{Files, Holds, is_missing}
use Rattle.esdk_base.specs.Streams.{FailsToRead, ShelfState}
use Rattle.esdk_seen.specs.Calls.{reads}
use Rattle.whole_input.specs.declared.file.FileError.{FileError}
use Rattle.whole_input.specs.declared.file.FileError.TheVariants.{Shelf, TooLong, Memory}
use Rattle.whole_input.specs.FileReads.{ReadsRow, ReadsWholeFile}
use Rattle.whole_input.specs.Pieces.{most_piece}
use Rattle.whole_input.specs.declared.file.FileError.TheVariants as errors

-- how many bytes a file has at the most that is taken whole
abbrev pub most_file : ℕ
most_file = 1048576

-- These bytes are what the calls between gave, which read the file in a row, from its front to its
-- end. The file has just these bytes, where the shelf tells, and just so many were given; there are
-- at most 1,048,576, and no read failed.
pub record IsFile (old new : ShelfState) (name bytes : List ℕ) : Type 0 where
  pub read : ReadsWholeFile name old.calls new.calls bytes
  pub there : is_missing old.files name ≡ false
  pub whole : (told : List ℕ) → Holds old.files name told → told ≡ bytes
  pub few : length bytes ≤ most_file
  pub given : RoseBy (length bytes) old.given new.given
  pub most : new.given ≤ old.given + length bytes
  pub faults : new.faults ≡ old.faults

-- These bytes are what the calls between gave, which read the file in a row from its front: more
-- than 1,048,576, by at most a piece. The file has more, where the shelf tells; no read failed.
pub record IsLong (old new : ShelfState) (name : List ℕ) : Type 0 where
  pub bytes : List ℕ
  pub read : ReadsRow name 0 old.calls new.calls bytes
  pub over : most_file < length bytes
  pub few : length bytes ≤ most_file + most_piece
  pub there : is_missing old.files name ≡ false
  pub many : (told : List ℕ) → Holds old.files name told → most_file < length told
  pub given : RoseBy (most_file + 1) old.given new.given
  pub most : new.given ≤ old.given + most_file + most_piece
  pub faults : new.faults ≡ old.faults

-- The shelf failed, or tells that the file isn't there; the calls between read it in a row from its
-- front and gave these bytes, at most 1,048,576.
pub record IsUnread (old new : ShelfState) (name : List ℕ) : Type 0 where
  pub bytes : List ℕ
  pub read : ReadsRow name 0 old.calls new.calls bytes
  pub few : length bytes ≤ most_file
  pub cause : FailsToRead old new name
  pub most : new.given ≤ old.given + most_file

-- Memory ran out, behind calls that read the file in a row from its front and gave these bytes, at
-- the latest with the piece that makes it too long. No read failed: the shelf is as before, or has
-- the file, where it tells.
pub record LacksMemoryForFile (old new : ShelfState) (name : List ℕ) : Type 0 where
  pub bytes : List ℕ
  pub read : ReadsRow name 0 old.calls new.calls bytes
  pub few : length bytes ≤ most_file + most_piece
  pub there : (new ≡ old) ⊎ (is_missing old.files name ≡ false)
  pub most : new.given ≤ old.given + most_file + most_piece
  pub faults : new.faults ≡ old.faults

-- why a file wasn't taken
abbrev pub FileCause : ShelfState → ShelfState → List ℕ → FileError → Type 0
FileCause old new name Shelf = IsUnread old new name
FileCause old new name TooLong = IsLong old new name
FileCause old new name Memory = LacksMemoryForFile old new name

-- these bytes are the front of the file, where the shelf tells
abbrev pub IsFront : Option Files → List ℕ → List ℕ → Type 0
IsFront files name bytes = (told : List ℕ) → Holds files name told
    → told ≡ bytes ++ drop (length bytes) told

-- A piece of the file, which may be empty, was put behind the bytes before.
pub record FilePieceIsRead (old new : ShelfState) (name before after : List ℕ) (more : Bool)
    : Type 0 where
  pub there : is_missing old.files name ≡ false
  pub front : IsFront old.files name before → IsFront old.files name after
  pub no_shorter : length before ≤ length after
  pub longer : more ≡ true → length before < length after
  pub few : length after ≤ length before + most_piece
  pub same : more ≡ false → after ≡ before
  pub end : more ≡ false → (told : List ℕ) → Holds old.files name told
      → drop (length before) told ≡ []
  pub read : (piece : List ℕ) × (after ≡ before ++ piece)
      × (new.calls ≡ old.calls ++ reads name (length before) piece ∷ [])
  pub given : new.given ≡ counted old.given (length after - length before)
  pub faults : new.faults ≡ old.faults

-- A piece of the file was read behind the bytes before, and memory ran out for it.
pub record LosesPiece (old new : ShelfState) (name before : List ℕ) : Type 0 where
  pub piece : List ℕ
  pub few : length piece ≤ most_piece
  pub there : is_missing old.files name ≡ false
  pub read : new.calls ≡ old.calls ++ reads name (length before) piece ∷ []
  pub most : new.given ≤ old.given + length piece
  pub faults : new.faults ≡ old.faults

-- what adding a piece to a file's front comes to
abbrev pub Adds : ShelfState → ShelfState → List ℕ → List ℕ → List ℕ → Result Bool FileError
    → Type 0
Adds old new name before after (Ok more) = FilePieceIsRead old new name before after more
Adds old new name before after (Err Shelf) =
    FailsToRead old new name × (new.given ≡ old.given) × (new.calls ≡ old.calls)
Adds old new name before after (Err TooLong) = ⊥
Adds old new name before after (Err Memory) = LosesPiece old new name before

-- what is shown of why a file isn't taken
unfoldable pub file_error_text : FileError → List ℕ
file_error_text errors.Shelf = codes "the file was not read"
file_error_text errors.TooLong = codes "the file has more than 1,048,576 bytes"
file_error_text errors.Memory = codes "memory ran out"
