-- A text's declared length, as a sealer keeps it.
use Rattle.std.specs.Prelude.{ℕ, ◌-◌, ◌==◌, min, Option, Some, None, if◌then◌else◌}
use Rattle.stream_seal.specs.declared.declared_length.Declared.{Declared}

-- what is declared once so many bytes came
abbrev pub declared_after : Option ℕ → ℕ → Option Declared
declared_after None taken = None
declared_after (Some whole) taken = Some (record { whole = whole; left = whole - taken })

-- the declared length, where no byte of it is still to come
abbrev pub spent : Option Declared → Option ℕ
spent None = None
spent (Some d) = if d.left == 0 then Some d.whole else None

-- so many bytes, or as many as are still to come
abbrev pub declared_within : Option Declared → ℕ → ℕ
declared_within None count = count
declared_within (Some d) count = min d.left count

-- what is declared after so many more bytes
abbrev pub after : Option Declared → ℕ → Option Declared
after None count = None
after (Some d) count = Some (record { whole = d.whole; left = d.left - count })
