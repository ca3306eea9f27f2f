-- What looking for a header in bytes finds.
use Rattle.std.specs.Prelude.{ℕ, List, Result, Ok, Err}
use Rattle.esdk_fields.specs.declared.stops.Stop.{Stop}
use Rattle.esdk_fields.specs.Place.{start}
use Rattle.esdk_fields.specs.Gives.{StopsAt}
use Rattle.header_codec.specs.declared.found.Found.{Found}
use Rattle.header_codec.specs.declared.settings.Settings.{Settings}
use Rattle.header_codec.specs.Table.{header, BeginsWith}

-- the header, with the offset where it ends, or why there is none
abbrev pub FindsHeader : Settings → List ℕ → Result Found Stop → Type 0
FindsHeader settings bytes (Ok found) =
    (left : List ℕ) × BeginsWith settings bytes found.header (record {
      at = found.end;
      left = left;
    })
FindsHeader settings bytes (Err stop) = StopsAt stop (header settings (start bytes))
