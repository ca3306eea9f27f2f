-- What is written of an input when a write fails.
use Rattle.std.specs.Prelude.{◌≡◌, ℕ, ◌≤◌, List, ◌++◌, length, take}
use Rattle.std.specs.Io.KnownBytes.{Appends}
use Rattle.esdk_base.specs.Streams.{SinkState}

-- All of these bytes were written that come first, and a front of what comes behind them, which is
-- something.
pub record WritesBeyond (output put : SinkState) (first all : List ℕ) : Type 0 where
  pub more : List ℕ
  pub some : 1 ≤ length more
  pub is : all ≡ first ++ more
  pub count : ℕ
  pub gained : Appends output.written put.written (first ++ take count more)
