-- A source over a reader of std.
use Rattle.std.specs.Prelude.{ℕ, List, Bool}

-- The reader, how many bytes it gave so far, and how often it failed; the bytes that it gave since
-- the source was made, and whether the last read into some room saw the end.
pub record StdSourceState (R : Type 0) : Type 0 where
  pub reader : R
  pub given : ℕ
  pub faults : ℕ
  pub came : List ℕ
  pub ended : Bool
