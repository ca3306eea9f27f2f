-- Bytes of a file that were read and aren't taken yet.
use Rattle.std.specs.Prelude.{◌≡◌, ℕ, ◌+◌, ◌≤◌, List, [], ◌++◌, length, drop, take, Result, Ok, Err}
use Rattle.esdk_fields.specs.Counts.{counted}
use Rattle.esdk_base.specs.Streams.{FailsToRead, ShelfState}
use Rattle.whole_input.specs.FileReads.{IsSeenAs}
use Rattle.whole_input.specs.Pieces.{most_piece}

-- They stand within the buffer, which has a piece of 65,536 bytes.
pub record FitsAhead (buffer : List ℕ) (begin end : ℕ) : Type 0 where
  pub size : length buffer ≡ most_piece
  pub order : begin ≤ end
  pub within : end ≤ length buffer

-- A read gave these bytes, at most so many, which stand in the file from that offset on, where the
-- shelf tells it; and in any bytes that agree with this read. It gave none only at the end of these
-- or past it.
pub record Comes (old new : ShelfState) (name : List ℕ) (at most : ℕ) (bytes : List ℕ)
    : Type 0 where
  pub few : length bytes ≤ most
  pub front : (told : List ℕ) → IsSeenAs old new name told
      → drop at told ≡ bytes ++ drop (at + length bytes) told
  pub end : bytes ≡ [] → (told : List ℕ) → IsSeenAs old new name told → drop at told ≡ []
  pub given : new.given ≡ counted old.given (length bytes)
  pub faults : new.faults ≡ old.faults

-- what a read comes to that gave these bytes, or none
abbrev pub ReadsAhead : {T E : Type 0} → ShelfState → ShelfState → List ℕ → ℕ → ℕ → List ℕ
    → Result T E → Type 0
ReadsAhead old new name at most bytes (Ok done) = Comes old new name at most bytes
ReadsAhead old new name at most bytes (Err error) =
    FailsToRead old new name × (new.given ≡ old.given) × (bytes ≡ [])

-- what a read into the front of a buffer comes to
abbrev pub ReadsIntoFront : {E : Type 0} → ShelfState → ShelfState → List ℕ → ℕ → ℕ → List ℕ
    → Result ℕ E → Type 0
ReadsIntoFront old new name at room buffer (Ok count) =
    Comes old new name at room (take count buffer) × (length (take count buffer) ≡ count)
ReadsIntoFront old new name at room buffer (Err error) =
    FailsToRead old new name × (new.given ≡ old.given)
