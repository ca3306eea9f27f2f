-- Limits that a caller may set.
use Rattle.std.specs.Prelude.{ℕ, Bool, false, Option, Some, None, nat_lt}

-- over a limit, where there is one
abbrev pub is_over : Option ℕ → ℕ → Bool
is_over None n = false
is_over (Some most) n = nat_lt most n
