-- A shelf over the files of the system.
use Rattle.std.specs.Prelude.{ℕ, List}
use Rattle.esdk_seen.specs.Calls.{ShelfCall}

-- How many bytes were given, and how often a call failed; the calls that didn't fail so far, but
-- those that announce a name, in their order.
pub record FileShelfState : Type 0 where
  pub given : ℕ
  pub faults : ℕ
  pub calls : List ShelfCall
