-- Each job that ended for a failure outside was counted by the object that failed.
use Rattle.std.specs.Prelude.{◌≡◌, ◌<◌, ℕ, false, List, length, zip, if◌then◌else◌, Option, None}
use Rattle.std.specs.Prelude.{Some, is_some, slice_index_or}
use Rattle.std.specs.List.{sum_by}
use Rattle.esdk_fields.specs.declared.refusals.Outside.TheVariants as outsides
use Rattle.esdk_fields.specs.Counts.{RoseBy}
use Rattle.esdk_base.specs.Shelf.{Files, is_missing}
use Rattle.esdk_base.specs.Streams.{ShelfState}
use Rattle.job_file.specs.declared.job.Job.{Job}
use Rattle.batch_report.specs.declared.job_lines.JobLine.{JobLine}
use Rattle.batch_report.specs.declared.job_lines.JobEnd.{JobEnd}
use Rattle.batch_report.specs.declared.job_lines.JobEnd.TheVariants as ends
use Rattle.esdk_batch.specs.declared.progress.Progress.{Progress}
use Rattle.esdk_batch.specs.declared.progress.Progress.TheVariants as stages
use Rattle.esdk_batch.specs.Batch.{OnlyWritten}

-- ---- how many failures an end tells of

abbrev pub entropy_fails : JobEnd → ℕ
entropy_fails (ends.Outside outsides.EntropyFault) = 1
entropy_fails end = 0

abbrev pub keyring_fails : JobEnd → ℕ
keyring_fails (ends.Outside outsides.KeyringFault) = 1
keyring_fails end = 0

abbrev pub shelf_fails : JobEnd → ℕ
shelf_fails (ends.Outside outsides.ShelfFault) = 1
shelf_fails end = 0

-- a shelf that tells that the job's file isn't there needn't have failed
abbrev pub shelf_fails_of : Option Files → Job → JobEnd → ℕ
shelf_fails_of files job end = if is_missing files job.from then 0 else shelf_fails end

-- ---- the batch

-- The files at a moment, where the shelf tells them, and how often the entropy, the manager and the
-- shelf failed so far.
pub record Tally : Type 0 where
  pub files : Option Files
  pub entropy : ℕ
  pub keyring : ℕ
  pub shelf : ℕ

abbrev pub tally_of : ShelfState → ℕ → ℕ → Tally
tally_of shelf entropy keyring =
    record { files = shelf.files; entropy = entropy; keyring = keyring; shelf = shelf.faults }

-- Each line that says that the entropy failed, or a keyring, or the shelf, is a failure more that
-- it counted.
pub record CountsFailures (jobs : List Job) (before now : Tally) (lines : List JobLine)
    : Type 0 where
  pub entropy : RoseBy (sum_by (λ line. entropy_fails line.end) lines) before.entropy now.entropy
  pub keyring : RoseBy (sum_by (λ line. keyring_fails line.end) lines) before.keyring now.keyring
  pub shelf : RoseBy
      (sum_by (λ pair. shelf_fails_of before.files pair.0 pair.1.end) (zip jobs lines))
      before.shelf now.shelf

-- ---- a job

abbrev pub fails_by : (JobEnd → ℕ) → Progress → ℕ
fails_by fails stages.Waiting = 0
fails_by fails (stages.Live now) = 0
fails_by fails (stages.Ended line) = fails line.end

-- the file that a live job writes is there, as far as the shelf tells
abbrev pub HasFile : Option Files → Job → Progress → Type 0
HasFile files job stages.Waiting = Unit {0}
HasFile files job (stages.Live now) = is_missing files job.to ≡ false
HasFile files job (stages.Ended line) = Unit {0}

-- What a turn counts of a job that hadn't ended: the failure for which it ended, if it did.
pub record TurnCounts (job : Job) (new : Progress) (before now : Tally) : Type 0 where
  pub has : HasFile now.files job new
  pub entropy : RoseBy (fails_by entropy_fails new) before.entropy now.entropy
  pub keyring : RoseBy (fails_by keyring_fails new) before.keyring now.keyring
  pub shelf : RoseBy (fails_by (shelf_fails_of before.files job) new) before.shelf now.shelf

abbrev pub fails_in : (JobEnd → ℕ) → Option JobEnd → ℕ
fails_in fails None = 0
fails_in fails (Some end) = fails end

-- What feeding a piece counts, or ending a session, whose file stays there. The manager had failed
-- so often when it was asked, and has so often now.
pub record PieceCounts (to : List ℕ) (end : Option JobEnd) (before now : ShelfState)
    (asked failed : ℕ) : Type 0 where
  pub there : is_missing now.files to ≡ false
  pub entropy : fails_in entropy_fails end ≡ 0
  pub keyring : RoseBy (fails_in keyring_fails end) asked failed
  pub shelf : RoseBy (fails_in shelf_fails end) before.faults now.faults

-- ---- all jobs

-- What was counted since the batch began, where the jobs stand so.
pub record JobsCounted (jobs : List Job) (began now : Tally) (progress : List Progress)
    : Type 0 where
  pub told : is_some now.files ≡ is_some began.files
  pub others : OnlyWritten jobs began.files now.files
  pub has : (k : ℕ) (job : Job) (one : Progress) → k < length progress
      → HasFile now.files (slice_index_or jobs k job) (slice_index_or progress k one)
  pub entropy : RoseBy (sum_by (fails_by entropy_fails) progress) began.entropy now.entropy
  pub keyring : RoseBy (sum_by (fails_by keyring_fails) progress) began.keyring now.keyring
  pub shelf : RoseBy
      (sum_by (λ pair. fails_by (shelf_fails_of began.files pair.0) pair.1) (zip jobs progress))
      began.shelf now.shelf
