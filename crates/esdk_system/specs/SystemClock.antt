-- A clock over that of the system.
use Rattle.std.specs.Prelude.{ℕ, List}

-- The last moment that was answered, or 0; the moments that were given since the clock was made.
pub record SystemClockState : Type 0 where
  pub last : ℕ
  pub given : List ℕ
