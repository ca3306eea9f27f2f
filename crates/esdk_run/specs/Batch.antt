-- What the command `batch` comes to.
use Rattle.std.specs.Prelude.{◌≡◌, ◌⊎◌, ℕ, List, [], Some, IfSome, is_some, Result, if◌then◌else◌}
use Rattle.std.specs.List.{list_all}
use Rattle.std.specs.Io.KnownBytes.{Appends}
use Rattle.esdk_base.specs.Receiver.{SinkFails}
use Rattle.esdk_base.specs.Shelf.{Files}
use Rattle.esdk_base.specs.Streams.{EntropyState, ShelfState, SinkState}
use Rattle.esdk_fields.specs.declared.refusals.FileRefusal.{FileRefusal}
use Rattle.esdk_fields.specs.declared.refusals.Outside.TheVariants as outsides
use Rattle.keyring_trait.specs.declared.journal.JournalLine.{JournalLine}
use Rattle.keyring_trait.specs.Keyring.{KeyringMeaning}
use Rattle.cmm_caching.specs.Journal.{KeepsWithin}
use Rattle.job_file.specs.JobFile.{JobFile}
use Rattle.job_file.specs.Jobs.{jobs_of}
use Rattle.batch_report.specs.declared.job_lines.JobLine.{JobLine}
use Rattle.batch_report.specs.BatchReport.{is_done, report_of}
use Rattle.esdk_batch.specs.Batch.{OnlyWritten, RunsBatch}
use Rattle.esdk_batch.specs.Failures.{CountsFailures, tally_of}
use Rattle.esdk_batch.specs.ShelfCalls.{AnnouncesFirst, AreFinished, announced}
use Rattle.esdk_batch.specs.Watching.{shown_files}
use Rattle.keyring_trait.specs.Saying.{Saying}
use Rattle.esdk_report.specs.declared.failure.Failure.{Failure}
use Rattle.esdk_report.specs.declared.failure.Failure.TheVariants as failures
use Rattle.esdk_run.specs.FileReading.{FileFails, FileIs}
use Rattle.esdk_run.specs.Objects.{Objects}
use Rattle.esdk_run.specs.Serving.{TreeOutlasts, managing_over}
use Rattle.esdk_run.specs.Trees.{IsLawful, IsUntouched, TreeIs, Trees}

-- ---- what is read

-- what the bytes of the job file of this name mean, or why they are refused
abbrev pub jobs_in : List ℕ → List ℕ → Result JobFile FileRefusal
jobs_in name bytes = jobs_of bytes name

-- The job file was read without a failure, and means this. The files of the shelf stayed.
pub record JobsAre (old new : ShelfState) (name : List ℕ) (file : JobFile) : Type 0 where
  pub read : FileIs (jobs_in name) old new name file
  pub stay : new.files ≡ old.files

-- The job file means this, and then the keyring file that it names was read as this tree. The files
-- of the shelf stayed.
pub record HasJobs (trees : Trees) (name : List ℕ) (old new : ShelfState) (file : JobFile)
    (tree : KeyringMeaning) : Type 0 where
  pub between : ShelfState
  pub jobs : JobsAre old between name file
  pub keyring : TreeIs trees.read between new file.keyring tree
  pub lawful : IsLawful tree
  pub stay : new.files ≡ old.files

-- The job file means this, and the keyring file that it names gives no tree, for this reason.
pub record JobsHaveNoTree (trees : Trees) (name : List ℕ) (old new : ShelfState) (failure : Failure)
    : Type 0 where
  pub file : JobFile
  pub between : ShelfState
  pub jobs : JobsAre old between name file
  pub cause : FileFails trees.read between new file.keyring failure

-- Why there are no jobs to run: the job file gives none, or the keyring file that it names gives no
-- tree. The files of the shelf stayed.
pub record HasNoJobs (trees : Trees) (name : List ℕ) (old new : ShelfState) (failure : Failure)
    : Type 0 where
  pub cause : FileFails (jobs_in name) old new name failure
      ⊎ JobsHaveNoTree trees name old new failure
  pub stay : new.files ≡ old.files

-- ---- what is run

-- The jobs had their turns over this manager, and this is said of them: of the files that the shelf
-- tells; and of any files as its calls show them, where each read agrees with them. The journal of
-- what it served is within the limits of the file's cache.
pub record RunsWithin (manager : Saying) (file : JobFile) (old new : ShelfState)
    (entropy spent : EntropyState) (lines : List JobLine) : Type 0 where
  pub journal : List JournalLine
  pub runs : RunsBatch manager file 0 old.files new.files entropy spent [] journal lines
  pub shown : (held : Files) → RunsBatch manager file 0 (Some held) (shown_files held old new)
      entropy spent [] journal lines
  pub within : KeepsWithin file.cache journal

-- The job file and the keyring file were read, what is left of the tree is given back, and the jobs
-- had their turns over it. `read` is the shelf once both files were read; it tells its files at the
-- end where it did then. Each line that says that the shelf, the entropy or a keyring failed is a
-- failure more that it counted, but where the shelf tells that the job's file isn't there. What the
-- jobs read was announced first; and the file of each job was finished, unless the shelf failed and
-- the job isn't done.
pub record RunsJobFile (trees : Trees) (name : List ℕ) (old new : ShelfState)
    (entropy spent : EntropyState) (lines : List JobLine) : Type 0 where
  pub file : JobFile
  pub tree : KeyringMeaning
  pub left : KeyringMeaning
  pub read : ShelfState
  pub has : HasJobs trees name old read file tree
  pub kept : trees.kept ≡ Some left
  pub goes : TreeOutlasts file.cache tree left
  pub runs : RunsWithin (managing_over file.cache tree left) file read new entropy spent lines
  pub others : OnlyWritten file.jobs read.files new.files
  pub told : is_some new.files ≡ is_some read.files
  pub finished : AreFinished file.jobs (announced file.jobs read) new lines
  pub failures : CountsFailures file.jobs (tally_of read entropy.faults tree.faults)
      (tally_of new spent.faults left.faults) lines

-- Both files were read; which turns the jobs had isn't said. Of the tree this is left, if something
-- is given back; no file that the shelf tells changed but those that jobs write, and it tells its
-- files where it did. Before any other call it was told what each job reads; it was called for
-- these files and for those that jobs read, and each job's file was finished once at the most.
pub record RunsSomeTurns (trees : Trees) (name : List ℕ) (old new : ShelfState) : Type 0 where
  pub file : JobFile
  pub tree : KeyringMeaning
  pub read : ShelfState
  pub has : HasJobs trees name old read file tree
  pub goes : IfSome trees.kept (TreeOutlasts file.cache tree)
  pub others : OnlyWritten file.jobs read.files new.files
  pub told : is_some new.files ≡ is_some read.files
  pub calls : AnnouncesFirst file.jobs read new

-- The job file of this name was read, no file that the shelf tells changed but those that its jobs
-- write, and it tells its files where it did before.
pub record ChangesOnlyWritten (name : List ℕ) (old new : ShelfState) : Type 0 where
  pub file : JobFile
  pub between : ShelfState
  pub jobs : JobsAre old between name file
  pub others : OnlyWritten file.jobs old.files new.files
  pub told : is_some new.files ≡ is_some old.files

-- ---- how it ends

-- 0 where every job is done, and else 7
abbrev pub status_of : List JobLine → ℕ
status_of lines = if list_all is_done lines then 0 else 7

-- The output gained the report of these lines, and the status says whether every job is done.
pub record WritesReport (lines : List JobLine) (before after : SinkState) (code : ℕ) : Type 0 where
  pub gained : Appends before.written after.written (report_of lines)
  pub status : code ≡ status_of lines

-- The jobs had their turns, and the output failed at their report, of which it gained a front.
pub record LosesReport (trees : Trees) (name : List ℕ) (before after : Objects) : Type 0 where
  pub lines : List JobLine
  pub runs : RunsJobFile trees name before.shelf after.shelf before.entropy after.entropy lines
  pub front : SinkFails before.output after.output (report_of lines)

-- Why the jobs weren't run; `undrawn` says that the entropy is as before. Memory runs out before
-- there are jobs to run, with nothing drawn; or once both files were read, as `RunsSomeTurns` says.
abbrev pub JobsFail : Trees → List ℕ → ShelfState → ShelfState → Type 0 → Failure → Type 0
JobsFail trees name old new undrawn (failures.File refusal) =
    HasNoJobs trees name old new (failures.File refusal) × IsUntouched trees undrawn
JobsFail trees name old new undrawn (failures.Outside outsides.ShelfFault) =
    HasNoJobs trees name old new (failures.Outside outsides.ShelfFault) × IsUntouched trees undrawn
JobsFail trees name old new undrawn failures.Memory =
    (HasNoJobs trees name old new failures.Memory × IsUntouched trees undrawn)
    ⊎ RunsSomeTurns trees name old new
JobsFail trees name old new undrawn failure = ⊥

-- Why the jobs weren't run, or their report wasn't written: also for want of memory behind all
-- turns. `unwritten` says that the output is as before, as it is but where it failed.
abbrev pub BatchFails : Trees → List ℕ → Objects → Objects → Type 0 → Type 0 → Failure → Type 0
BatchFails trees name before after unwritten undrawn (failures.Outside outsides.SinkFault) =
    LosesReport trees name before after
BatchFails trees name before after unwritten undrawn failures.Memory =
    (JobsFail trees name before.shelf after.shelf undrawn failures.Memory
    ⊎ ((lines : List JobLine) × RunsJobFile trees name before.shelf after.shelf before.entropy
    after.entropy lines)) × unwritten
BatchFails trees name before after unwritten undrawn failure =
    JobsFail trees name before.shelf after.shelf undrawn failure × unwritten
