-- What a batch's report shows of the limits of its cache, and what a batch and a generation leave.
use Rattle.std.specs.Prelude.{◌≡◌, ◌≢◌, ◌≤◌, ℕ, Bool, false, ◌&&◌, List, length, zip, sum_by, All}
use Rattle.std.specs.Prelude.{Option, Some, None, IfSome, Ok, if◌then◌else◌}
use Rattle.std.specs.Io.KnownBytes.{Appends}
use Rattle.esdk_base.specs.Receiver.{SinkFails}
use Rattle.esdk_base.specs.Shelf.{Files, Holds}
use Rattle.esdk_base.specs.Streams.{ShelfState, SinkState}
use Rattle.esdk_fields.specs.Counts.{Stayed}
use Rattle.keyring_trait.specs.declared.served.Served.{Served}
use Rattle.keyring_trait.specs.declared.served.Served.TheVariants.{Direct}
use Rattle.keyring_trait.specs.Keyring.{KeyringMeaning}
use Rattle.cmm_caching.specs.Journal.{is_sealing, names}
use Rattle.cmm_caching.specs.Limits.{LimitsValue}
use Rattle.cmm_caching.specs.Store.{use_bytes}
use Rattle.job_file.specs.declared.job.Job.{Job}
use Rattle.job_file.specs.JobFile.{JobFile}
use Rattle.whole_input.specs.File.{most_file}
use Rattle.whole_input.specs.FileReads.{Grows}
use Rattle.batch_report.specs.declared.job_lines.JobLine.{JobLine}
use Rattle.batch_report.specs.BatchReport.{report_of}
use Rattle.esdk_batch.specs.Batch.{length_of}
use Rattle.esdk_gen.specs.Generator.{gen_line}
use Rattle.esdk_run.specs.Batch.{JobsAre, jobs_in}
use Rattle.esdk_run.specs.Generate.{WritesLine}
use Rattle.esdk_run.specs.Objects.{Objects}
use Rattle.esdk_run.specs.Told.{HoldsTree, IsDoneOrMemory}
use Rattle.esdk_run.specs.Trees.{Trees}

-- ---- the limits of a cache, as a report shows them

-- a job was served from the entry of that number, or made it
abbrev pub shows_number : ℕ → Option Served → Bool
shows_number n None = false
shows_number n (Some served) = names n served

-- it is an encrypt job that shows that number
abbrev pub seals_under : ℕ → JobLine → Bool
seals_under n line = is_sealing line.kind && shows_number n line.served

-- how many encrypt jobs show that number, and the sum of the lengths that they declare
abbrev pub seals_shown : ℕ → List Job → List JobLine → ℕ
seals_shown n jobs lines = sum_by (λ pair. if seals_under n pair.1 then 1 else 0) (zip jobs lines)

abbrev pub bytes_shown : ℕ → List Job → List JobLine → ℕ
bytes_shown n jobs lines =
    sum_by (λ pair. if seals_under n pair.1 then use_bytes (length_of pair.0.work) else 0)
    (zip jobs lines)

-- Without a cache all materials were served directly; with one, the encrypt jobs that show one
-- number are no more than the limit, and of no more bytes.
abbrev pub AreServedWithin : Option LimitsValue → List Job → List JobLine → Type 0
AreServedWithin None jobs lines = All (λ line. IfSome line.served (λ served. served ≡ Direct)) lines
AreServedWithin (Some limits) jobs lines =
    (n : ℕ) → (seals_shown n jobs lines ≤ limits.messages)
    × (bytes_shown n jobs lines ≤ limits.bytes)

-- The output gained a report of the jobs of the file of this name, one line for each, and they are
-- served within the limits that the file sets. Behind the reads that gave it the calls of the shelf
-- were only added to.
pub record ShowsLimits (name : List ℕ) (before after : Objects) : Type 0 where
  pub file : JobFile
  pub between : ShelfState
  pub lines : List JobLine
  pub jobs : JobsAre before.shelf between name file
  pub grown : Grows between.calls after.shelf.calls
  pub gained : Appends before.output.written after.output.written (report_of lines)
  pub each : length lines ≡ length file.jobs
  pub within : AreServedWithin file.cache file.jobs lines

-- ---- the files

-- ---- a batch that must be run

-- The shelf tells that the file of this name holds these jobs, and that the keyring file that they
-- name holds this tree.
pub record HoldsJobs (trees : Trees) (files : Option Files) (name : List ℕ) (file : JobFile)
    (tree : KeyringMeaning) : Type 0 where
  pub bytes : List ℕ
  pub holds : Holds files name bytes
  pub few : length bytes ≤ most_file
  pub is : jobs_in name bytes ≡ Ok file
  pub keyring : HoldsTree trees files file.keyring tree

-- ---- `gen`

-- The output gained the line where all is done, and else a front of it where the output failed, or
-- nothing. All is done unless the output fails or memory runs out.
pub record Generates (seed size : ℕ) (before after : SinkState) (unwritten : Type 0) (code : ℕ)
    : Type 0 where
  pub done : code ≡ 0 → WritesLine seed size before after
  pub failed : code ≡ 4 → SinkFails before after (gen_line seed size)
  pub otherwise : code ≢ 0 → code ≢ 4 → unwritten
  pub must : Stayed before.faults after.faults → IsDoneOrMemory code
