-- Counts of 64 bits. A count never falls, and stands still at 2^64 - 1; there its object is called
-- worn.
use Rattle.std.specs.Prelude.{◌≡◌, ℕ, ◌+◌, ◌-◌, ◌^◌, ◌<◌, ◌≤◌, min, Result, OnOk, OnErr}
use Rattle.std.specs.Prelude.{MatchResult}

-- a count once n more were counted
abbrev pub counted : ℕ → ℕ → ℕ
counted before n = min (before + n) (2 ^ 64 - 1)

-- at least n more were counted, or the count is worn
abbrev pub RoseBy : ℕ → ℕ → ℕ → Type 0
RoseBy n before now = counted before n ≤ now

-- the count rose, or is worn
abbrev pub Rose : ℕ → ℕ → Type 0
Rose before now = RoseBy 1 before now

-- the count neither rose nor is worn
abbrev pub Stayed : ℕ → ℕ → Type 0
Stayed before now = now < counted before 1

-- A call answers an error only where its object's count of faults rose, and Ok leaves the count.
pub record HasCause {T E : Type 0} (before now : ℕ) (result : Result T E) : Type 0 where
  pub later : before ≤ now
  pub failed : OnErr result (Rose before now)
  pub same : OnOk result (now ≡ before)

-- the count of bytes given grows by what a read gave
abbrev pub CountsGiven : {E : Type 0} → ℕ → ℕ → Result ℕ E → Type 0
CountsGiven before now result = MatchResult result (λ n. now ≡ counted before n) (λ _. now ≡ before)
