-- What is taken of an input.
use Rattle.std.specs.Prelude.{◌≡◌, ℕ, ◌+◌, ◌^◌, ◌<◌, ◌≤◌, List, ◌++◌, length, true}
use Rattle.std.specs.Io.KnownBytes.{Consumes, IsAtEnd}
use Rattle.esdk_fields.specs.Counts.{RoseBy}
use Rattle.esdk_base.specs.Streams.{SourceState}

-- Since the first moment just these bytes came from the input: they are those that it tells to have
-- come, and the first of those that were left, where it tells these.
pub record Came (first now : SourceState) (bytes : List ℕ) : Type 0 where
  pub told : now.came ≡ first.came ++ bytes
  pub consumed : Consumes first.left now.left bytes
  pub given : RoseBy (length bytes) first.given now.given
  pub most : now.given ≤ first.given + length bytes

-- The end of the input was seen, and no read failed.
pub record EndSeen (first now : SourceState) (bytes : List ℕ) : Type 0 where
  pub end : IsAtEnd now.left
  pub seen : now.ended ≡ true
  pub faults : now.faults ≡ first.faults
  pub few : length bytes < 2 ^ 62

-- So many bytes were taken that no more are, and no read failed.
pub record MostTaken (first now : SourceState) (bytes : List ℕ) : Type 0 where
  pub faults : now.faults ≡ first.faults
  pub count : length bytes ≡ 2 ^ 62

-- A piece of at most so many bytes came, at least one, and no read failed.
pub record PieceCame (room : ℕ) (old new : SourceState) (piece : List ℕ) : Type 0 where
  pub some : 1 ≤ length piece
  pub fits : length piece ≤ room
  pub came : Came old new piece
  pub faults : new.faults ≡ old.faults
