-- An input that is taken piece by piece.
use Rattle.std.specs.Prelude.{◌≡◌, ℕ, ◌+◌, ◌<◌, ◌≤◌, List, [], ◌++◌, length, take, true, Result, Ok}
use Rattle.std.specs.Prelude.{Err}
use Rattle.std.specs.Io.KnownBytes.{IsAtEnd}
use Rattle.esdk_fields.specs.Counts.{Rose}
use Rattle.esdk_base.specs.Streams.{SourceState, most_input}
use Rattle.whole_input.specs.declared.pieces.End.{End}
use Rattle.whole_input.specs.declared.pieces.End.TheVariants.{Seen, Failed, TooLong}
use Rattle.whole_input.specs.Taken.{Came, PieceCame}

-- how many bytes are read at once at the most, and how many are taken of one input at the most
abbrev pub most_piece : ℕ
most_piece = 65536

-- How many bytes were taken so far, and the last piece.
pub record PiecesValue : Type 0 where
  pub taken : ℕ
  pub piece : List ℕ

-- The piece stands at the front of the buffer, and the bytes taken are no more than may be.
pub record FitsPieces (buffer : List ℕ) (count taken : ℕ) : Type 0 where
  pub buffer_is : length buffer ≡ most_piece
  pub count_few : count ≤ most_piece
  pub taken_few : taken ≤ most_input

-- what one read into the front of a buffer comes to: so many bytes are the piece, or there is none
abbrev pub ReadsInto : ℕ → SourceState → SourceState → List ℕ → Result ℕ End → Type 0
ReadsInto room old new buffer (Ok count) =
    PieceCame room old new (take count buffer) × (length (take count buffer) ≡ count)
ReadsInto room old new buffer (Err Seen) =
    Came old new [] × IsAtEnd new.left × (new.faults ≡ old.faults) × (new.ended ≡ true)
ReadsInto room old new buffer (Err Failed) = Came old new [] × Rose old.faults new.faults
ReadsInto room old new buffer (Err TooLong) = ⊥

-- What the call for the next piece comes to, where so many bytes were taken before: a piece came,
-- the end was seen, a read failed, or so many were taken that no more are.
abbrev pub NextPiece : {T : Type 0} → ℕ → SourceState → SourceState → PiecesValue → Result T End
    → Type 0
NextPiece taken old new v (Ok done) =
    PieceCame most_piece old new v.piece × (v.taken ≡ taken + length v.piece)
    × (v.taken ≤ most_input)
NextPiece taken old new v (Err Seen) =
    Came old new [] × IsAtEnd new.left × (new.faults ≡ old.faults) × (taken < most_input)
    × (v.taken ≡ taken) × (new.ended ≡ true)
NextPiece taken old new v (Err Failed) =
    Came old new [] × Rose old.faults new.faults × (taken < most_input) × (v.taken ≡ taken)
NextPiece taken old new v (Err TooLong) = (new ≡ old) × (taken ≡ most_input) × (v.taken ≡ taken)

-- At most one piece of these bytes stands behind others of which this is so.
pub record APieceBehind (so : List ℕ → Type 0) (bytes : List ℕ) : Type 0 where
  pub before : List ℕ
  pub piece : List ℕ
  pub all : bytes ≡ before ++ piece
  pub few : length piece ≤ most_piece
  pub was : so before
