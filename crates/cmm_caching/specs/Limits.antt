-- What bounds a cache and the use of its entries.
use Rattle.std.specs.Prelude.{ℕ, ◌-◌, ◌^◌, ◌≤◌}

-- How many entries it holds; for how many seconds, how many encryptions and how many bytes one of
-- them serves.
pub record LimitsValue : Type 0 where
  pub capacity : ℕ
  pub age : ℕ
  pub messages : ℕ
  pub bytes : ℕ

-- What the type of limits keeps.
pub record AreLimits (l : LimitsValue) : Type 0 where
  pub some : 1 ≤ l.capacity
  pub few : l.capacity ≤ 65536
  pub lasting : 1 ≤ l.age
  pub used : 1 ≤ l.messages
  pub seldom : l.messages ≤ 2 ^ 32
  pub short : l.bytes ≤ 2 ^ 63 - 1
