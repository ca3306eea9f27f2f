-- Limits, which a caller gives as numbers.
use Rattle.std.specs.Prelude.{ℕ, ◌==◌, Bool, Option, Some, None, if◌then◌else◌}
use Rattle.header_codec.specs.declared.settings.Settings.{Settings}

-- this number, unless it is the one that stands for none
abbrev pub some_unless : ℕ → ℕ → Option ℕ
some_unless none number = if number == none then None else Some number

-- the limits of a reader, of which 0 sets none
abbrev pub reader_settings : ℕ → ℕ → Bool → Settings
reader_settings max_keys max_unit uncommitted = record {
  max_keys = some_unless 0 max_keys;
  max_unit = some_unless 0 max_unit;
  uncommitted = uncommitted;
}
