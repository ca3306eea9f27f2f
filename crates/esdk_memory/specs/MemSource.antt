-- A source in memory.
use Rattle.std.specs.Prelude.{ℕ, List, Bool, length, drop, min, if◌then◌else◌}
use Rattle.esdk_fields.specs.Counts.{counted}
use Rattle.esdk_memory.specs.CallPlan.{Plan, fails_next, plan_after_call}

-- The bytes left, the most that one read gives, how many bytes were given, and which reads are to
-- fail; the bytes that came so far, and whether the last read into some room saw the end.
pub record MemSourceState : Type 0 where
  pub left : List ℕ
  pub most : ℕ
  pub given : ℕ
  pub plan : Plan
  pub came : List ℕ
  pub ended : Bool

-- how many bytes a read that doesn't fail gives into so much room
abbrev pub source_read_count : ℕ → MemSourceState → ℕ
source_read_count room source = min (min source.most room) (length source.left)

-- the source after a read into so much room, but for what it tells of the bytes that came
abbrev pub source_after_read : ℕ → MemSourceState → MemSourceState
source_after_read room source =
    let failed = fails_next source.plan in
    let count = if failed then 0 else source_read_count room source in
    record source {
      left = drop count source.left;
      given = counted source.given count;
      plan = plan_after_call failed source.plan;
    }
