-- A sink in memory.
use Rattle.std.specs.Prelude.{ℕ, ◌+◌, List, ◌++◌, Bool, ◌||◌, length, nat_lt, if◌then◌else◌}
use Rattle.esdk_memory.specs.CallPlan.{Plan, fails_next, plan_after_call}

-- The bytes written, how many may be, and which puts are to fail.
pub record MemSinkState : Type 0 where
  pub written : List ℕ
  pub room : ℕ
  pub plan : Plan

-- the next put fails: it is to, or the bytes written and the new ones are more than the room
abbrev pub put_fails : MemSinkState → List ℕ → Bool
put_fails sink bytes = fails_next sink.plan || nat_lt sink.room (length sink.written + length bytes)

-- the sink after a put
abbrev pub after_put : MemSinkState → List ℕ → MemSinkState
after_put sink bytes = record {
  written = if put_fails sink bytes then sink.written else sink.written ++ bytes;
  room = sink.room;
  plan = plan_after_call (put_fails sink bytes) sink.plan;
}
