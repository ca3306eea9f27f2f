-- What a source gave when a header was taken from it. Standard: AWS Encryption SDK Specification,
-- "Message header" and "Header authentication".
use Rattle.std.specs.Prelude.{◌≡◌, ◌+◌, ◌<◌, ℕ, List, length}
use Rattle.esdk_fields.specs.Counts.{Rose}
use Rattle.esdk_fields.specs.declared.faults.Fault.{Fault}
use Rattle.esdk_fields.specs.Place.{start}
use Rattle.esdk_fields.specs.Reading.{Refused, Wanting}
use Rattle.esdk_base.specs.Streams.{SourceState}
use Rattle.header_codec.specs.declared.session.HeaderReader.{HeaderReader}
use Rattle.header_codec.specs.declared.settings.Settings.{Settings}
use Rattle.header_codec.specs.Table.{header}
use Rattle.whole_input.specs.declared.pieces.End.TheVariants as ends
use Rattle.whole_input.specs.Pieces.{APieceBehind}
use Rattle.whole_input.specs.Taken.{Came, EndSeen, MostTaken}
use Rattle.header_input.specs.declared.errors.NoHeader.{NoHeader}
use Rattle.header_input.specs.declared.errors.NoHeader.TheVariants as errors
use Rattle.header_input.specs.Feeding.{HasTakenHeader}

-- The bytes that came begin with what the reader took, a whole header with its authentication;
-- fewer than a piece of 65,536 stand behind it, and no read failed.
pub record HoldsHeader (settings : Settings) (reader : HeaderReader)
    (old new : SourceState) : Type 0 where
  pub bytes : List ℕ
  pub holds : HasTakenHeader settings reader bytes
  pub came : Came old new bytes
  pub few : length holds.rest < 65536
  pub faults : new.faults ≡ old.faults

-- ---- why no header came

-- A field of the bytes that came has this fault, fewer than a piece of 65,536 of them stand behind
-- it, and no read failed.
pub record FaultCame (settings : Settings) (fault : Fault) (old new : SourceState) : Type 0 where
  pub bytes : List ℕ
  pub at : ℕ
  pub came : Came old new bytes
  pub refused : header settings (start bytes) ≡ Refused fault at
  pub few : length bytes < at + 65536
  pub faults : new.faults ≡ old.faults

-- The whole input came, and ends before its header is whole.
pub record EndCame (settings : Settings) (old new : SourceState) : Type 0 where
  pub bytes : List ℕ
  pub came : Came old new bytes
  pub end : EndSeen old new bytes
  pub wanting : header settings (start bytes) ≡ Wanting

-- A read failed, and the bytes that came before neither have a fault nor a whole header.
pub record ReadFailed (settings : Settings) (old new : SourceState) : Type 0 where
  pub bytes : List ℕ
  pub came : Came old new bytes
  pub wanting : header settings (start bytes) ≡ Wanting
  pub rose : Rose old.faults new.faults

-- 2^62 bytes of the input came, no read failed, and they neither have a fault nor a whole header.
pub record HeaderInputIsTooLong (settings : Settings) (old new : SourceState) : Type 0 where
  pub bytes : List ℕ
  pub came : Came old new bytes
  pub most : MostTaken old new bytes
  pub wanting : header settings (start bytes) ≡ Wanting

-- Memory ran out at the last piece that came; what came before it is the beginning of a header, and
-- no read failed.
pub record HeaderInputLacksMemory (settings : Settings) (old new : SourceState) : Type 0 where
  pub bytes : List ℕ
  pub came : Came old new bytes
  pub last : APieceBehind (λ before. header settings (start before) ≡ Wanting) bytes
  pub faults : new.faults ≡ old.faults

-- why none came
abbrev pub NoneCame : Settings → SourceState → SourceState → NoHeader → Type 0
NoneCame settings old new (errors.Fault fault) = FaultCame settings fault old new
NoneCame settings old new (errors.End ends.Seen) = EndCame settings old new
NoneCame settings old new (errors.End ends.Failed) = ReadFailed settings old new
NoneCame settings old new (errors.End ends.TooLong) = HeaderInputIsTooLong settings old new
NoneCame settings old new errors.Memory = HeaderInputLacksMemory settings old new
