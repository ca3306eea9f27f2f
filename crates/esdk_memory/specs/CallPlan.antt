-- Which calls of a memory form are to fail, by their numbers.
use Rattle.std.specs.Prelude.{◌==◌, ℕ, List, Bool, if◌then◌else◌}
use Rattle.std.specs.List.{list_any}
use Rattle.esdk_fields.specs.Counts.{counted}

-- The numbers of the calls that are to fail, how many calls came so far, and how many of them
-- failed.
pub record Plan : Type 0 where
  pub failing : List ℕ
  pub calls : ℕ
  pub faults : ℕ

-- the number of the next call, from 1
abbrev pub next_call : Plan → ℕ
next_call plan = counted plan.calls 1

-- the next call is to fail
abbrev pub fails_next : Plan → Bool
fails_next plan = list_any (λ number. number == next_call plan) plan.failing

-- the plan after a call that failed or didn't
abbrev pub plan_after_call : Bool → Plan → Plan
plan_after_call failed plan = record {
  failing = plan.failing;
  calls = next_call plan;
  faults = if failed then counted plan.faults 1 else plan.faults;
}
