-- What holds of an open group that a reader of armour keeps.
use Rattle.std.specs.Prelude.{◌≡◌, ℕ, ◌-◌, ◌^◌, ◌<◌, ◌≤◌, Bool, true, List, length, slice_index}
use Rattle.armour_core.specs.Unarmoured.{is_character}

-- Fewer than four characters are held, groups are counted from 1, and behind padding none is held.
pub record IsGroupState (group : List ℕ) (held number : ℕ) (padded : Bool) : Type 0 where
  pub size : length group ≡ 4
  pub few : held < 4
  pub numbered : 1 ≤ number
  pub fits : number ≤ 2 ^ 64 - 1
  pub even : padded ≡ true → held ≡ 0
  pub later : padded ≡ true → 2 ≤ number
  pub kept : (k : ℕ) → k < held → is_character (slice_index group k) ≡ true
