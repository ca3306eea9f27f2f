-- What a batch calls of its shelf, which every shelf tells: that it announces first what its jobs
-- read; whose files it reads, makes, appends to and finishes; and that each job's file is finished
-- once, behind all that is written into it.
use Rattle.std.specs.Prelude.{◌≡◌, ◌≢◌, ◌⊎◌, ◌≤◌, ◌<◌, ℕ, Bool, true, false, List, [], ◌∷◌, ◌++◌}
use Rattle.std.specs.Prelude.{length, map, take, All, slice_index_or}
use Rattle.std.specs.List.{AllZip, filter, list_any}
use Rattle.std.specs.Str.{bytes_eq}
use Rattle.esdk_fields.specs.Counts.{Rose}
use Rattle.esdk_seen.specs.Calls.{ShelfCall, announces, appends, creates, finishes, reads}
use Rattle.esdk_base.specs.declared.shelf.Readers.{Readers}
use Rattle.esdk_base.specs.Streams.{ShelfState}
use Rattle.esdk_base.specs.Told.{whom}
use Rattle.job_file.specs.declared.job.Job.{Job}
use Rattle.job_file.specs.JobFile.{is_written}
use Rattle.batch_report.specs.declared.job_lines.JobLine.{JobLine}
use Rattle.batch_report.specs.declared.job_lines.JobEnd.{JobEnd}
use Rattle.batch_report.specs.declared.job_lines.JobEnd.TheVariants as ends
use Rattle.esdk_batch.specs.declared.progress.Progress.{Progress}
use Rattle.esdk_batch.specs.declared.progress.Progress.TheVariants as stages
use Rattle.esdk_batch.specs.Batch.{kind_of}
use Rattle.esdk_batch.specs.JobReads.{IsReadSo, JobTurn, ReadsOnce, all_calls, calls_of, reads_of}
use Rattle.esdk_batch.specs.Placing.{readers_of, unplaced_line}

-- ---- calls between two moments

-- The shelf was called so often, and each of these calls is so. Its count of faults never falls.
pub record HasCalls (P : ShelfCall → Type 0) (old new : ShelfState) : Type 0 where
  pub made : List ShelfCall
  pub calls : new.calls ≡ old.calls ++ made
  pub all : All P made
  pub later : old.faults ≤ new.faults

-- it reads the file of this name
abbrev pub IsReadOf : List ℕ → ShelfCall → Type 0
IsReadOf name (reads other at bytes) = other ≡ name
IsReadOf name call = ⊥

-- it makes the file of this name, or appends to it
abbrev pub IsWrite : List ℕ → ShelfCall → Type 0
IsWrite name (creates other) = other ≡ name
IsWrite name (appends other bytes) = other ≡ name
IsWrite name call = ⊥

-- ---- a job

-- it reads what the job reads, or writes what the job writes
abbrev pub IsOfTurn : Job → ShelfCall → Type 0
IsOfTurn job call = IsReadOf job.from call ⊎ IsWrite job.to call

-- the same, or it finishes what the job writes
abbrev pub IsOfJob : Job → ShelfCall → Type 0
IsOfJob job (reads name at bytes) = name ≡ job.from
IsOfJob job (creates name) = name ≡ job.to
IsOfJob job (appends name bytes) = name ≡ job.to
IsOfJob job (announces name) = ⊥
IsOfJob job (finishes name whom) = name ≡ job.to

-- it makes the file of this name, appends to it, or finishes it
abbrev pub is_about : List ℕ → ShelfCall → Bool
is_about name (reads other at bytes) = false
is_about name (creates other) = bytes_eq other name
is_about name (appends other bytes) = bytes_eq other name
is_about name (announces other) = false
is_about name (finishes other whom) = bytes_eq other name

-- the calls that make the file of this name, append to it or finish it
abbrev pub calls_about : List ℕ → List ShelfCall → List ShelfCall
calls_about name made = filter (is_about name) made

-- the file wasn't finished
abbrev pub FinishesNot : List ℕ → List ShelfCall → Type 0
FinishesNot name made = All (IsWrite name) (calls_about name made)

-- The file was finished once, for these readers, behind all that was written into it.
pub record FinishesOnce (name : List ℕ) (readers : Readers) (made : List ShelfCall)
    : Type 0 where
  pub written : List ShelfCall
  pub only : All (IsWrite name) written
  pub last : calls_about name made ≡ written ++ finishes name (whom readers) ∷ []

-- the same for those who may read what the job writes
abbrev pub IsFinished : Job → List ShelfCall → Type 0
IsFinished job made = FinishesOnce job.to (readers_of (kind_of job.work)) made

-- The job ended so, and its file was finished; or that isn't told, and then the shelf failed, and
-- the job isn't done.
abbrev pub JobIsOver : Job → JobEnd → List ShelfCall → (before now : ℕ) → Type 0
JobIsOver job end made before now =
    IsFinished job made
    ⊎ (FinishesNot job.to made × (end ≢ ends.Done) × Rose before now)

-- before a job ended its file isn't finished
abbrev pub IsFinishedSo : Job → Progress → List ShelfCall → (before now : ℕ) → Type 0
IsFinishedSo job stages.Waiting made before now = FinishesNot job.to made
IsFinishedSo job (stages.Live live) made before now = FinishesNot job.to made
IsFinishedSo job (stages.Ended line) made before now = JobIsOver job line.end made before now

-- Where the job ended, its file was finished by one call, for those who may read what the job
-- wrote; or that failed and isn't told, and what is said of the job is what is said then.
abbrev pub FinishesBy : Job → Progress → Progress → ShelfState → ShelfState → Type 0
FinishesBy job stages.Waiting placed before after = after.calls ≡ before.calls
FinishesBy job (stages.Live live) placed before after = after.calls ≡ before.calls
FinishesBy job (stages.Ended line) placed before after =
    (after.calls ≡ before.calls ++ finishes job.to (whom (readers_of line.kind)) ∷ [])
    ⊎ ((after.calls ≡ before.calls) × (placed ≡ stages.Ended (unplaced_line line))
    × Rose before.faults after.faults)

-- The calls of a turn up to where the job's file is put in its place: behind others by which it
-- read its file as far as it was, it reads it as far as it is now.
pub record FurtherCalls (job : Job) (old new : Progress) (before now : ShelfState) : Type 0 where
  pub has : HasCalls (IsOfTurn job) before now
  pub read : (made : List ShelfCall) → IsReadSo job old made → IsReadSo job new (made ++ has.made)

-- The calls of a turn, behind which the job stands so.
pub record TurnCalls (job : Job) (old new : Progress) (before now : ShelfState) : Type 0 where
  pub has : HasCalls (IsOfJob job) before now
  pub so : IsFinishedSo job new has.made before.faults now.faults
  pub read : (made : List ShelfCall) → IsReadSo job old made → IsReadSo job new (made ++ has.made)

-- ---- all jobs

-- it reads what some job reads; or it makes what some job writes, appends to it or finishes it
abbrev pub IsOfJobs : List Job → ShelfCall → Type 0
IsOfJobs jobs (reads name at bytes) = (list_any (λ job. bytes_eq name job.from) jobs) ≡ true
IsOfJobs jobs (creates name) = is_written jobs name ≡ true
IsOfJobs jobs (appends name bytes) = is_written jobs name ≡ true
IsOfJobs jobs (announces name) = ⊥
IsOfJobs jobs (finishes name whom) = is_written jobs name ≡ true

-- The calls of the turns of a job that stands so are its own, and by them it read its file so far.
abbrev pub HasTurns : Job → Progress → List ShelfCall → Type 0
HasTurns job one calls = All (IsOfJob job) calls × IsReadSo job one calls

-- The calls are those of turns of the jobs. Those of a job's turns read what it reads, or write or
-- finish what it writes, and by them it read its file once: in a row from its front, and not on
-- behind its end.
pub record ReadsInTurns (jobs : List Job) (made : List ShelfCall) : Type 0 where
  pub turns : List JobTurn
  pub in_turns : made ≡ all_calls turns
  pub each : (k : ℕ) (job : Job) → k < length jobs
      → All (IsOfJob (slice_index_or jobs k job)) (calls_of k turns)
      × ReadsOnce (slice_index_or jobs k job).from
      (reads_of (slice_index_or jobs k job).from (calls_of k turns))

-- The calls since the first turn of a batch whose jobs stand so.
pub record JobsCall (jobs : List Job) (began now : ShelfState) (progress : List Progress)
    : Type 0 where
  pub has : HasCalls (IsOfJobs jobs) began now
  pub so : (k : ℕ) (job : Job) (one : Progress) → k < length progress
      → IsFinishedSo (slice_index_or jobs k job) (slice_index_or progress k one) has.made
      began.faults now.faults
  pub turns : List JobTurn
  pub in_turns : has.made ≡ all_calls turns
  pub reads_so : (k : ℕ) (job : Job) (one : Progress) → k < length progress
      → HasTurns (slice_index_or jobs k job) (slice_index_or progress k one) (calls_of k turns)

-- The calls since the first turn are of files that the jobs read and write, and each job's file was
-- finished once at the most.
pub record CallsAtMost (jobs : List Job) (began now : ShelfState) : Type 0 where
  pub has : HasCalls (IsOfJobs jobs) began now
  pub most : All (λ job. IsFinished job has.made ⊎ FinishesNot job.to has.made) jobs

-- The jobs all ended, and each job's file was finished; or that isn't told, and then the shelf
-- failed since the first turn, and the job isn't done. Each job read its file once.
pub record AreFinished (jobs : List Job) (began now : ShelfState) (lines : List JobLine)
    : Type 0 where
  pub has : HasCalls (IsOfJobs jobs) began now
  pub read : ReadsInTurns jobs has.made
  pub over : AllZip (λ job line. JobIsOver job line.end has.made began.faults now.faults) jobs lines

-- ---- what is announced

-- the shelf, behind calls that announce what each of these jobs reads, in their order
abbrev pub announced : List Job → ShelfState → ShelfState
announced jobs shelf =
    record shelf { calls = shelf.calls ++ map (λ job. announces job.from) jobs }

-- However a batch ends: it announced what the first jobs read, so many of them, and that was all;
-- or it announced what each of them reads, and all other calls came behind that.
abbrev pub AnnouncesFirst : List Job → ShelfState → ShelfState → Type 0
AnnouncesFirst jobs old new =
    ((count : ℕ) × (new ≡ announced (take count jobs) old))
    ⊎ CallsAtMost jobs (announced jobs old) new
