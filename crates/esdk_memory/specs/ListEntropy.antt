-- An entropy over a list of bytes.
use Rattle.std.specs.Prelude.{ℕ, List, Bool, ◌||◌, length, drop, nat_lt, if◌then◌else◌}
use Rattle.esdk_memory.specs.CallPlan.{Plan, fails_next, plan_after_call}

-- The bytes to come, and which fills are to fail; the bytes that were drawn so far.
pub record ListEntropyState : Type 0 where
  pub to_come : List ℕ
  pub plan : Plan
  pub drawn : List ℕ

-- the next fill of so many bytes fails: it is to, or fewer are left
abbrev pub fill_fails : ListEntropyState → ℕ → Bool
fill_fails entropy count = fails_next entropy.plan || nat_lt (length entropy.to_come) count

-- the entropy after a fill of so many bytes, but for what it tells of the bytes drawn
abbrev pub after_fill : ListEntropyState → ℕ → ListEntropyState
after_fill entropy count = record entropy {
  to_come = if fill_fails entropy count then entropy.to_come else drop count entropy.to_come;
  plan = plan_after_call (fill_fails entropy count) entropy.plan;
}
