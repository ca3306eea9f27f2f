-- The ages of the entries of a batch's cache: they are those of the clock.
use Rattle.std.specs.Prelude.{◌≡◌, ℕ, List, [], length}
use Rattle.std.specs.Io.KnownBytes.{Appends}
use Rattle.esdk_base.specs.Streams.{ClockState, ShelfState, SinkState}
use Rattle.keyring_trait.specs.declared.journal.JournalLine.{JournalLine}
use Rattle.cmm_caching.specs.Journal.{KeepsWithin}
use Rattle.job_file.specs.JobFile.{JobFile}
use Rattle.batch_report.specs.declared.job_lines.JobLine.{JobLine}
use Rattle.batch_report.specs.BatchReport.{report_of}
use Rattle.whole_input.specs.FileReads.{Grows}
use Rattle.esdk_batch.specs.Batch.{SaysWhatWasServed}
use Rattle.esdk_batch.specs.Moments.{ReadsClock}
use Rattle.esdk_run.specs.Batch.{JobsAre}

-- The report has a line for each job, and there is a journal of what was served. It is within the
-- limits of the file's cache; its answers are those of the report's lines, each once; and the
-- moments of its lines are, in order, among those that the clock gave.
pub record ServesInTime (file : JobFile) (clock ticked : ClockState) (lines : List JobLine)
    : Type 0 where
  pub each : length lines ≡ length file.jobs
  pub journal : List JournalLine
  pub within : KeepsWithin file.cache journal
  pub served : SaysWhatWasServed file.jobs lines journal
  pub moments : ReadsClock clock ticked [] journal

-- So the jobs were served of the file of this name. Behind the reads that gave it the calls of the
-- shelf were only added to.
pub record ServesFileInTime (name : List ℕ) (shelf after : ShelfState) (clock ticked : ClockState)
    (lines : List JobLine) : Type 0 where
  pub file : JobFile
  pub between : ShelfState
  pub jobs : JobsAre shelf between name file
  pub grown : Grows between.calls after.calls
  pub serves : ServesInTime file clock ticked lines

-- The output gained the report of jobs that were served so.
pub record ShowsAges (name : List ℕ) (shelf after : ShelfState) (output put : SinkState)
    (clock ticked : ClockState) : Type 0 where
  pub lines : List JobLine
  pub gained : Appends output.written put.written (report_of lines)
  pub serves : ServesFileInTime name shelf after clock ticked lines
