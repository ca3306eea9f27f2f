-- How all jobs of a batch stand between turns.
use Rattle.std.specs.Prelude.{◌≡◌, ◌≢◌, ◌⊎◌, ◌≤◌, ◌<◌, ◌+◌, ℕ, Bool, true, false, List, [], ◌∷◌}
use Rattle.std.specs.Prelude.{◌++◌, length, map, take, zip, filter_map, All, AllPairs, Option, Some}
use Rattle.std.specs.Prelude.{slice_index_or}
use Rattle.std.specs.List.{concat, sum_by}
use Rattle.std.specs.List.Sorted.{IsPermutation}
use Rattle.esdk_fields.specs.Counts.{Stayed}
use Rattle.esdk_base.specs.Shelf.{Files}
use Rattle.esdk_base.specs.Streams.{EntropyState}
use Rattle.keyring_trait.specs.declared.journal.JournalLine.{JournalLine}
use Rattle.keyring_trait.specs.Saying.{Saying}
use Rattle.desk_core.specs.declared.live_sessions.Desk.{Desk}
use Rattle.desk_core.specs.Session.{SessionValue}
use Rattle.desk_core.specs.Desk.{DeskValue}
use Rattle.desk_core.specs.Stands.{Stands}
use Rattle.job_file.specs.declared.job.Job.{Job}
use Rattle.job_file.specs.JobFile.{is_written}
use Rattle.esdk_batch.specs.declared.progress.Progress.{Progress}
use Rattle.esdk_batch.specs.declared.progress.Progress.TheVariants as stages
use Rattle.esdk_batch.specs.Batch.{Draws, OnlyWritten, SealsFirst, in_line}
use Rattle.esdk_batch.specs.Underway.{JobHasSession, IsAt, LacksSession, sessions_beside}
use Rattle.esdk_batch.specs.Turns.{HasKind, Knows, answered_so_far, waits}

-- ---- jobs that had a turn

abbrev pub has_begun : Progress → Bool
has_begun stages.Waiting = false
has_begun (stages.Live now) = true
has_begun (stages.Ended line) = true

-- the first jobs, so many of them, had a turn
abbrev pub HaveBegun : ℕ → List Progress → Type 0
HaveBegun count progress = All (λ one. has_begun one ≡ true) (take count progress)

-- no job had a turn; or each of the first jobs had one, so many as have their turns in a round
abbrev pub RoundIsBegun : ℕ → List Progress → Type 0
RoundIsBegun width progress = All (λ one. one ≡ stages.Waiting) progress ⊎ HaveBegun width progress

-- how many wait
abbrev pub all_waits : List Progress → ℕ
all_waits progress = sum_by waits progress

-- ---- the jobs of a batch

-- What holds of the files that they read and write: no job writes what one reads, and no two jobs
-- write one file.
pub record FilesAreApart (jobs : List Job) : Type 0 where
  pub unread : All (λ job. is_written jobs job.from ≡ false) jobs
  pub apart : AllPairs (λ one other. one.to ≢ other.to) jobs

-- ---- the sessions of all jobs

-- the two don't have one session
abbrev pub HasOwn : Progress → Progress → Type 0
HasOwn stages.Waiting other = Unit {0}
HasOwn (stages.Live now) other = LacksSession now.session other
HasOwn (stages.Ended line) other = Unit {0}

-- Each live job has a session of its own, of which it knows how its materials were served; and jobs
-- are opened in their order: behind one that waits all wait.
pub record HaveSessions (jobs : List Job) (progress : List Progress)
    (live : ℕ → Option SessionValue) : Type 0 where
  pub sessions : All (JobHasSession live) progress
  pub knows : (k : ℕ) (job : Job) (one : Progress) → k < length progress
      → Knows (slice_index_or jobs k job).work (slice_index_or progress k one) live
  pub own : (i j : ℕ) (one : Progress) → i ≢ j → i < length progress → j < length progress
      → HasOwn (slice_index_or progress i one) (slice_index_or progress j one)
  pub order : AllPairs (λ one later. one ≡ stages.Waiting → later ≡ stages.Waiting) progress

-- the desk is worth something at which the live jobs have sessions
abbrev pub AreReady : {M : Type 0} → Desk M → List Job → List Progress → Type 0
AreReady desk jobs progress = (v : DeskValue) × Stands desk v × HaveSessions jobs progress v.live

-- the sessions that are live beside those of these jobs
abbrev pub beside_all : List Progress → (ℕ → Option SessionValue) → ℕ → Option SessionValue
beside_all [] live = live
beside_all (one ∷ others) live = sessions_beside one (beside_all others live)

-- ---- what came so far

-- Where a batch begins: the sessions that are live, what the files hold, the bytes that are to be
-- drawn, the journal, and the number that the desk drew last.
pub record Beginning : Type 0 where
  pub live : ℕ → Option SessionValue
  pub files : Option Files
  pub entropy : EntropyState
  pub journal : List JournalLine
  pub last : ℕ

-- each job stands where it is
abbrev pub AreAt : Saying → List Job → Files → Files → List (List ℕ) → (ℕ → Option SessionValue)
    → List Progress → Type 0
AreAt manager jobs before files draws live progress =
    (k : ℕ) (job : Job) (drawn : List ℕ) (one : Progress) → k < length progress
    → IsAt manager (slice_index_or jobs k job) before files (slice_index_or draws k drawn) live
    (slice_index_or progress k one)

-- What the jobs drew so far, each these bytes: those are what was taken, and a job that waits drew
-- none.
pub record HaveDrawn (draws : List (List ℕ)) (progress : List Progress)
    (entropy spent : EntropyState) : Type 0 where
  pub count : length draws ≡ length progress
  pub taken : Draws entropy spent (concat draws)
  pub none : (k : ℕ) (drawn : List ℕ) (one : Progress) → k < length progress
      → slice_index_or progress k one ≡ stages.Waiting → slice_index_or draws k drawn ≡ []

-- Each job that had a turn drew a number. What was sealed in the first round stands before what was
-- opened; until a job had a second turn, nothing was opened.
pub record HaveSealed (width last next : ℕ) (progress : List Progress)
    (gained : List JournalLine) : Type 0 where
  pub numbers : next + all_waits progress ≡ last + length progress
  pub seals : SealsFirst width last gained
  pub opened : (seals.later ≡ []) ⊎ HaveBegun width progress

-- How the jobs stand that drew these bytes, where the batch began so, and the files hold `now`:
-- beside the jobs' sessions those are live that were; the journal gained these lines, and says of
-- each job how its materials were served; no other files were written than those that jobs write;
-- and where no draw failed, the first round sealed before anything was opened.
pub record Stand (manager : Saying) (jobs : List Job) (width : ℕ) (began : Beginning)
    (now : Option Files) (spent : EntropyState) (v : DeskValue)
    (progress : List Progress) : Type 0 where
  pub sessions : HaveSessions jobs progress v.live
  pub rest : (session : ℕ) → beside_all progress v.live session ≡ began.live session
  pub kinds : (k : ℕ) (job : Job) (one : Progress) → k < length progress
      → HasKind (slice_index_or jobs k job).work (slice_index_or progress k one)
  pub draws : List (List ℕ)
  pub drawn : HaveDrawn draws progress began.entropy spent
  pub gained : List JournalLine
  pub journal : v.journal ≡ began.journal ++ gained
  pub served : IsPermutation (filter_map answered_so_far (zip jobs progress)) (map in_line gained)
  pub others : (left : Files) → now ≡ Some left → OnlyWritten jobs began.files now
  pub at : (files left : Files) → began.files ≡ Some files → now ≡ Some left
      → AreAt manager jobs files left draws v.live progress
  pub later : began.entropy.faults ≤ spent.faults
  pub sealed : Stayed began.entropy.faults spent.faults
      → HaveSealed width began.last v.last progress gained
