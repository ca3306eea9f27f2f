-- A clock over a list of moments.
use Rattle.std.specs.Prelude.{ℕ, List, ◌-◌, length, unwrap_or, slice_get}
use Rattle.esdk_base.specs.Clock.{Moments}

-- The moments to come, and the one that stays behind them; the moments that were given so far.
pub record ListClockState : Type 0 where
  pub moments : Moments
  pub given : List ℕ

-- the last of the moments, or 0 where there are none
abbrev pub last_moment : List ℕ → ℕ
last_moment moments = unwrap_or (slice_get moments (length moments - 1)) 0
