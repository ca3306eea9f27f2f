-- What a source gave when the header of a message was taken from it.
use Rattle.std.specs.Prelude.{◌≡◌, ◌⊎◌, ◌+◌, ◌<◌, ℕ, List, length, Result, Ok, Err}
use Rattle.esdk_fields.specs.declared.faults.Fault.{Fault}
use Rattle.esdk_fields.specs.declared.faults.Fault.TheVariants.{Truncated}
use Rattle.esdk_fields.specs.declared.refusals.Outside.TheVariants as outsides
use Rattle.esdk_fields.specs.Place.{Place}
use Rattle.esdk_base.specs.Streams.{SourceState}
use Rattle.header_codec.specs.Header.{HeaderValue, no_limits}
use Rattle.header_codec.specs.Table.{BeginsWith}
use Rattle.header_input.specs.Taking.{EndCame, FaultCame, HeaderInputIsTooLong}
use Rattle.header_input.specs.Taking.{HeaderInputLacksMemory, ReadFailed}
use Rattle.whole_input.specs.Pieces.{most_piece}
use Rattle.whole_input.specs.Taken.{Came}
use Rattle.esdk_report.specs.declared.failure.Failure.{Failure}
use Rattle.esdk_report.specs.declared.failure.Failure.TheVariants as failures

-- The bytes that came begin with this header and its authentication, what stands behind them is
-- less than a piece, and no read failed.
pub record FileHeaderCame (h : HeaderValue) (old new : SourceState) : Type 0 where
  pub bytes : List ℕ
  pub end : Place
  pub came : Came old new bytes
  pub begins : BeginsWith no_limits bytes h end
  pub few : length bytes < end.at + most_piece
  pub faults : new.faults ≡ old.faults

-- the header, or its fault, which is M10 where the end was seen before it is whole
abbrev pub TakesHeader : SourceState → SourceState → Result HeaderValue Fault → Type 0
TakesHeader old new (Ok h) = FileHeaderCame h old new
TakesHeader old new (Err fault) =
    FaultCame no_limits fault old new ⊎ ((fault ≡ Truncated) × EndCame no_limits old new)

-- why there is neither, of a file
abbrev pub TakesNoHeader : SourceState → SourceState → Failure → Type 0
TakesNoHeader old new (failures.Outside outsides.ShelfFault) = ReadFailed no_limits old new
TakesNoHeader old new (failures.Outside outsides.InputTooLong) =
    HeaderInputIsTooLong no_limits old new
TakesNoHeader old new failures.Memory = HeaderInputLacksMemory no_limits old new
TakesNoHeader old new failure = ⊥
