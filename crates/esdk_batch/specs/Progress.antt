-- How far the jobs of a batch are.
use Rattle.std.specs.Prelude.{◌≡◌, ◌<◌, ◌+◌, ◌-◌, ℕ, Bool, true, false, List, length, map, take}
use Rattle.std.specs.Prelude.{All, Option, Some, None}
use Rattle.std.specs.List.{sum_by}
use Rattle.std.specs.Prelude.{slice_index_or}
use Rattle.esdk_base.specs.Streams.{most_input}
use Rattle.esdk_batch.specs.declared.progress.Progress.{Progress}
use Rattle.esdk_batch.specs.declared.progress.Progress.TheVariants.{Waiting, Live, Ended}
use Rattle.batch_report.specs.declared.job_lines.JobLine.{JobLine}

abbrev pub is_ended : Progress → Bool
is_ended Waiting = false
is_ended (Live live) = false
is_ended (Ended line) = true

-- the first job that hasn't ended, or none is
abbrev pub IsFirstRunning : List Progress → Option ℕ → Type 0
IsFirstRunning progress (Some at) =
    (at < length progress) × All (λ one. is_ended one ≡ true) (take at progress)
    × ((one : Progress) → is_ended (slice_index_or progress at one) ≡ false)
IsFirstRunning progress None = All (λ one. is_ended one ≡ true) progress

-- every job ended, and these are their lines
abbrev pub AreEnded : List Progress → List JobLine → Type 0
AreEnded progress lines = progress ≡ map Ended lines

-- How many turns a job may still have: the first, one for each byte that it may take, and the last.
abbrev pub turns_left : Progress → ℕ
turns_left Waiting = most_input + 3
turns_left (Live live) = most_input - live.at + 2
turns_left (Ended line) = 0

abbrev pub all_turns_left : List Progress → ℕ
all_turns_left progress = sum_by turns_left progress
