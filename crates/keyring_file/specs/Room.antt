-- The numbers of the nodes that are met fit 32 bits: a multi-keyring has a leaf below it, at most
-- 64 leaves are raw keys, and there are fewer than 2^24 plugs.
use Rattle.std.specs.Prelude.{ℕ, ◌+◌, ◌*◌, ◌≤◌, ◌^◌, length}
use Rattle.keyring_file.specs.Walk.{Met}

-- What was met where a node may have so many levels: of each leaf at most its 8 levels, and the
-- nodes above this one.
pub record LevelsHaveRoom {P : Type 0} (levels : ℕ) (met : Met P) : Type 0 where
  pub few : levels ≤ 8
  pub leaves : met.leaves ≤ 64
  pub keys : length met.keys ≤ met.leaves
  pub nodes : met.nodes + levels + 8 * length met.plugs ≤ 8 * length met.keys + 8 + 2 ^ 27

-- The same where a keyring that is handed over counts as one leaf.
pub record HasSpace {P : Type 0} (levels : ℕ) (met : Met P) : Type 0 where
  pub few : levels ≤ 8
  pub leaves : met.leaves ≤ 64
  pub nodes : met.nodes + levels ≤ 8 * met.leaves + 8
