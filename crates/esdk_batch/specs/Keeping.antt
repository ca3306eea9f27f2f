-- The sessions of a desk that were drawn before those of a batch's jobs, and how many numbers are
-- drawn, whatever a call answers.
use Rattle.std.specs.Prelude.{◌≡◌, ◌≤◌, ◌<◌, ◌+◌, ℕ}
use Rattle.desk_core.specs.declared.live_sessions.Desk.{Desk}
use Rattle.desk_core.specs.Desk.{DeskValue}
use Rattle.desk_core.specs.Stands.{Stands, last_of}
use Rattle.esdk_batch.specs.declared.progress.Progress.{Progress}
use Rattle.esdk_batch.specs.declared.progress.Progress.TheVariants as stages

-- Every session whose number is at most `last` is as it was, live or not; and so many numbers were
-- drawn at the most.
pub record KeepsSessions {M : Type 0} (last most : ℕ) (old new : Desk M) : Type 0 where
  pub live : (v : DeskValue) → Stands old v → (w : DeskValue) × Stands new w
      × ((session : ℕ) → session ≤ last → w.live session ≡ v.live session)
  pub later : last_of old ≤ last_of new
  pub few : last_of new ≤ last_of old + most

-- the job's session, where the job is live, has a greater number
abbrev pub IsBeyond : ℕ → Progress → Type 0
IsBeyond last stages.Waiting = Unit {0}
IsBeyond last (stages.Live now) = last < now.session
IsBeyond last (stages.Ended line) = Unit {0}
