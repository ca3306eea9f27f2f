-- The bytes of a header that came so far.
use Rattle.std.specs.Prelude.{ℕ, List}
use Rattle.header_codec.specs.declared.settings.Settings.{Settings}

pub record IntakeValue : Type 0 where
  pub settings : Settings
  pub taken : List ℕ
