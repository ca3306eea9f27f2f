-- What a source, a sink, a shelf, an entropy and a clock tell and count at one moment.
use Rattle.std.specs.Prelude.{◌≡◌, ◌⊎◌, ℕ, List, Bool, true, ⊤}
use Rattle.std.specs.Prelude.{Option, Some, None, ◌^◌}
use Rattle.esdk_fields.specs.Counts.{Rose}
use Rattle.esdk_seen.specs.Calls.{ShelfCall}
use Rattle.esdk_base.specs.Clock.{Moments}
use Rattle.esdk_base.specs.Shelf.{Files, is_missing}

-- the bytes left, and the counts of bytes given and of faults; the bytes that came so far, and that
-- the last read into some room saw the end
pub record SourceState : Type 0 where
  pub left : Option (List ℕ)
  pub given : ℕ
  pub faults : ℕ
  pub came : List ℕ
  pub ended : Bool

-- the bytes written, and the count of faults
pub record SinkState : Type 0 where
  pub written : Option (List ℕ)
  pub faults : ℕ

-- the files, and the counts of bytes given and of faults; the calls so far, in their order
pub record ShelfState : Type 0 where
  pub files : Option Files
  pub given : ℕ
  pub faults : ℕ
  pub calls : List ShelfCall

-- the bytes to come, and the count of faults; the bytes that were drawn so far
pub record EntropyState : Type 0 where
  pub to_come : Option (List ℕ)
  pub faults : ℕ
  pub drawn : List ℕ

-- the moments to come, and the one that stays behind them; the moments that were given so far, in
-- their order
pub record ClockState : Type 0 where
  pub moments : Option Moments
  pub given : List ℕ

-- why a file can't be read: the shelf failed, or tells that the name isn't there
abbrev pub FailsToRead : ShelfState → ShelfState → List ℕ → Type 0
FailsToRead old new name = Rose old.faults new.faults
    ⊎ ((is_missing old.files name ≡ true) × (new.faults ≡ old.faults))

-- of bytes that are told
abbrev pub OnTold : Option (List ℕ) → (List ℕ → Type 0) → Type 0
OnTold None P = ⊤
OnTold (Some bytes) P = P bytes

-- how many bytes of an input or of a file are taken at the most
abbrev pub most_input : ℕ
most_input = 2 ^ 62
