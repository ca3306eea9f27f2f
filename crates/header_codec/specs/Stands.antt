-- When a reader stands for a session.
use Rattle.std.specs.Prelude.{◌≡◌, None, false}
use Rattle.header_codec.specs.declared.session.HeaderReader.{HeaderReader}
use Rattle.header_codec.specs.Session.{Session, ShowsHeader}

-- It has the session's settings, and says as it whether it is stopped. It keeps the bytes taken
-- until the header is found.
pub record Stands (reader : HeaderReader) (v : Session) : Type 0 where
  pub settings : reader.intake.settings ≡ v.settings
  pub stopped : reader.stopped ≡ v.stopped
  pub taken : v.stopped ≡ false → reader.found ≡ None → reader.intake.taken ≡ v.taken
  pub found : ShowsHeader v reader.found
