-- A header that comes in pieces.
use Rattle.std.specs.Prelude.{◌≡◌, ℕ, ◌-◌, List, [], ◌++◌, length, take, Bool, true, false, Option}
use Rattle.std.specs.Prelude.{Some, None, Result, Ok, Err, if◌then◌else◌}
use Rattle.esdk_fields.specs.declared.refusals.FieldError.{FieldError}
use Rattle.esdk_fields.specs.declared.refusals.FieldError.TheVariants as errors
use Rattle.esdk_fields.specs.Place.{start}
use Rattle.esdk_fields.specs.Reading.{Reading, Read, Refused, Wanting}
use Rattle.header_codec.specs.declared.session.HeaderStep.{HeaderStep}
use Rattle.header_codec.specs.declared.settings.Settings.{Settings}
use Rattle.header_codec.specs.Header.{HeaderValue}
use Rattle.header_codec.specs.Table.{HeaderFields, header, BeginsWith}

-- What a session is worth: its settings, the bytes that it took, and whether a step answered an
-- error.
pub record Session : Type 0 where
  pub settings : Settings
  pub taken : List ℕ
  pub stopped : Bool

-- nothing is taken yet
abbrev pub new_header_session : Settings → Session
new_header_session settings = record { settings = settings; taken = []; stopped = false }

-- the bytes taken so far and the piece, as the table judges them
abbrev pub read_now : Session → List ℕ → Reading HeaderFields
read_now v piece = header v.settings (start (v.taken ++ piece))

-- bytes are used up to the end of the piece, or of the header's authentication
abbrev pub answer_to : Session → List ℕ → Reading HeaderFields → Result HeaderStep FieldError
answer_to v piece (Read parts end) = Ok (record { used = end.at - length v.taken; ready = true })
answer_to v piece (Refused fault at) = Err (errors.Fault fault)
answer_to v piece Wanting = Ok (record { used = length piece; ready = false })

abbrev pub answer : Session → List ℕ → Result HeaderStep FieldError
answer v piece = if v.stopped then Err errors.Stopped else answer_to v piece (read_now v piece)

-- that answer, or want of memory while the session isn't stopped
abbrev pub HeaderAnswers : Session → List ℕ → Result HeaderStep FieldError → Type 0
HeaderAnswers v piece (Ok step) = answer v piece ≡ Ok step
HeaderAnswers v piece (Err errors.Memory) = v.stopped ≡ false
HeaderAnswers v piece (Err errors.Stopped) = answer v piece ≡ Err errors.Stopped
HeaderAnswers v piece (Err (errors.Fault fault)) = answer v piece ≡ Err (errors.Fault fault)

-- the session after a step: it took what was used, and any error stops it
abbrev pub header_stepped : Session → List ℕ → Result HeaderStep FieldError → Session
header_stepped v piece (Ok step) = record v { taken = v.taken ++ take step.used piece }
header_stepped v piece (Err e) = record v { stopped = true }

-- The header is shown once all of it was taken, and not before.
abbrev pub ShowsHeader : Session → Option HeaderValue → Type 0
ShowsHeader v None = header v.settings (start v.taken) ≡ Wanting
ShowsHeader v (Some h) = BeginsWith v.settings v.taken h (record { at = length v.taken; left = [] })
