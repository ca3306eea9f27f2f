-- A sink over a writer of std.
use Rattle.std.specs.Prelude.{◌≡◌, ℕ, List, ◌++◌, Option}
use Rattle.std.specs.Io.KnownBytes.{Appends}

-- The writer, the bytes that it took since the sink was made, and how often it failed.
pub record StdSinkState (W : Type 0) : Type 0 where
  pub writer : W
  pub written : List ℕ
  pub faults : ℕ

-- What the sink noted meanwhile is what its writer took, where that tells what it holds.
pub record NotesWhatIsTaken {W : Type 0} (contents : W → Option (List ℕ))
    (old new : StdSinkState W) : Type 0 where
  pub taken : List ℕ
  pub noted : new.written ≡ old.written ++ taken
  pub gained : Appends (contents old.writer) (contents new.writer) taken
