-- The moments of a clock, and what asking for one does to them.
use Rattle.std.specs.Prelude.{ℕ, List, drop, unwrap_or, slice_get}

-- The moments to come, in seconds, and the one that stays behind them.
pub record Moments : Type 0 where
  pub to_come : List ℕ
  pub last : ℕ

-- the moment that is answered next: the first of those to come, and where none is left the one that
-- stays
abbrev pub next_moment : Moments → ℕ
next_moment told = unwrap_or (slice_get told.to_come 0) told.last

-- the moments once the next was answered
abbrev pub after_now : Moments → Moments
after_now told = record told { to_come = drop 1 told.to_come }
