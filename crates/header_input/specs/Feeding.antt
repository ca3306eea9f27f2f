-- A reader of a header that is fed from an input until the header is whole.
use Rattle.std.specs.Prelude.{◌≡◌, ◌<◌, ℕ, Bool, true, false, List, ◌++◌, length, ⊤, Result, Ok}
use Rattle.std.specs.Prelude.{Err}
use Rattle.esdk_fields.specs.Place.{Place, start}
use Rattle.esdk_fields.specs.Reading.{Read, Refused, Wanting}
use Rattle.header_codec.specs.declared.session.HeaderReader.{HeaderReader}
use Rattle.header_codec.specs.declared.settings.Settings.{Settings}
use Rattle.header_codec.specs.Session.{Session}
use Rattle.header_codec.specs.Stands.{Stands}
use Rattle.header_codec.specs.Table.{HeaderFields, header}
use Rattle.header_input.specs.declared.errors.NoHeader.{NoHeader}
use Rattle.header_input.specs.declared.errors.NoHeader.TheVariants as errors

-- a session that took these bytes and met no error
abbrev pub header_session_of : Settings → List ℕ → Session
header_session_of settings taken = record { settings = settings; taken = taken; stopped = false }

-- The reader took these bytes, and wants more.
pub record Waits (settings : Settings) (reader : HeaderReader) (taken : List ℕ) : Type 0 where
  pub stands : Stands reader (header_session_of settings taken)
  pub wanting : header settings (start taken) ≡ Wanting

-- The reader took a whole header with its authentication, and these bytes begin with what it took.
pub record HasTakenHeader (settings : Settings) (reader : HeaderReader) (bytes : List ℕ)
    : Type 0 where
  pub taken : List ℕ
  pub rest : List ℕ
  pub parts : HeaderFields
  pub end : Place
  pub stands : Stands reader (header_session_of settings taken)
  pub read : header settings (start taken) ≡ Read parts end
  pub front : bytes ≡ taken ++ rest

-- The reader took a whole header, with which the bytes and the piece behind them begin, and its end
-- stands in the piece.
pub record HeaderEnds (settings : Settings) (reader : HeaderReader) (bytes piece : List ℕ)
    : Type 0 where
  pub holds : HasTakenHeader settings reader (bytes ++ piece)
  pub few : length holds.rest < length piece

-- what feeding a piece to a reader that waits comes to; a fault's field ends in the piece
abbrev pub FeedsHeaderReader : Settings → List ℕ → List ℕ → HeaderReader → Result Bool NoHeader
    → Type 0
FeedsHeaderReader settings taken piece reader (Ok true) = HeaderEnds settings reader taken piece
FeedsHeaderReader settings taken piece reader (Ok false) = Waits settings reader (taken ++ piece)
FeedsHeaderReader settings taken piece reader (Err (errors.Fault fault)) =
    (at : ℕ) × (header settings (start (taken ++ piece)) ≡ Refused fault at) × (length taken < at)
FeedsHeaderReader settings taken piece reader (Err (errors.End end)) = ⊥
FeedsHeaderReader settings taken piece reader (Err errors.Memory) = ⊤
