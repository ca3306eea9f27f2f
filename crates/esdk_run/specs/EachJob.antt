-- What is said of each job of a batch, where the shelf tells its files: what is read for a decrypt
-- job, and which jobs must be done.
use Rattle.std.specs.Prelude.{◌≡◌, ◌⊎◌, ◌≤◌, ◌<◌, ℕ, true, List, [], length, take, ⊤, Option, Some}
use Rattle.std.specs.Prelude.{None}
use Rattle.std.specs.List.{AllZip}
use Rattle.std.specs.Io.KnownBytes.{Appends}
use Rattle.header_codec.specs.Header.{no_limits}
use Rattle.esdk_base.specs.Shelf.{Files, file_of}
use Rattle.esdk_base.specs.Streams.{ShelfState, SinkState, most_input}
use Rattle.esdk_fields.specs.Counts.{Stayed}
use Rattle.esdk_fields.specs.declared.faults.Fault.{Fault}
use Rattle.esdk_fields.specs.declared.refusals.Outside.TheVariants as outsides
use Rattle.context_codec.specs.Context.{KeyValue}
use Rattle.keyring_trait.specs.Keyring.{KeyringMeaning}
use Rattle.keyring_trait.specs.Wrapping.{WrapKeyValue}
use Rattle.body_format.specs.declared.verdicts.Verdict.TheVariants.{Whole}
use Rattle.message_format.specs.Judgement.{content}
use Rattle.esdk_decrypt.specs.Decrypt.{fault_at_end}
use Rattle.esdk_decrypt.specs.Told.{Reader, judged_by}
use Rattle.cmm_caching.specs.Limits.{LimitsValue}
use Rattle.job_file.specs.declared.job.Job.{Job}
use Rattle.job_file.specs.declared.job.Work.{Work}
use Rattle.job_file.specs.declared.job.Work.TheVariants.{Encrypt, Decrypt}
use Rattle.job_file.specs.JobFile.{JobFile}
use Rattle.batch_report.specs.declared.job_lines.JobLine.{JobLine}
use Rattle.batch_report.specs.declared.job_lines.JobEnd.{JobEnd}
use Rattle.batch_report.specs.declared.job_lines.JobEnd.TheVariants as ends
use Rattle.batch_report.specs.BatchReport.{is_done, report_of}
use Rattle.esdk_batch.specs.Batch.{seen_of}
use Rattle.esdk_batch.specs.SealStory.{SealAsked, Seen, held_or_none, most_sealed}
use Rattle.esdk_run.specs.Batch.{HasJobs}
use Rattle.esdk_run.specs.Objects.{Objects}
use Rattle.esdk_run.specs.Giving.{refusal_over}
use Rattle.esdk_run.specs.Serving.{IsSteadyIfCached}
use Rattle.esdk_run.specs.Trees.{Trees}

-- ---- what is read for a decrypt job

-- Who reads for a decrypt job, where the tree tells these keys: they, with the job's given pairs
-- and its required keys. A job sets no limits, and takes no message that doesn't commit to its data
-- key.
abbrev pub reader_for : List WrapKeyValue → List KeyValue → List (List ℕ) → Reader
reader_for keys given required =
    record { keys = keys; settings = no_limits; given = given; required = required }

-- The file that the job reads holds these bytes, and the file that it writes what their judgement
-- releases.
pub record JobReleases (reader : Reader) (seen : Seen) (bytes : List ℕ) : Type 0 where
  pub from : seen.from ≡ Some bytes
  pub to : seen.to ≡ Some (content (judged_by reader bytes))

-- They are a whole message.
pub record JobReadsWhole (reader : Reader) (seen : Seen) : Type 0 where
  pub bytes : List ℕ
  pub releases : JobReleases reader seen bytes
  pub whole : (judged_by reader bytes).verdict ≡ Whole

-- They have this fault.
pub record JobReadsFault (reader : Reader) (seen : Seen) (fault : Fault) : Type 0 where
  pub bytes : List ℕ
  pub releases : JobReleases reader seen bytes
  pub cause : fault_at_end (judged_by reader bytes).verdict ≡ Some fault

-- The file that it writes holds a front of what the judgement releases of the file that it reads.
pub record JobReleasesFront (reader : Reader) (seen : Seen) : Type 0 where
  pub count : ℕ
  pub front : seen.to ≡ Some (take count (content (judged_by reader (held_or_none seen.from))))

-- what a decrypt job comes to, by how it ended, where no keyring failed
abbrev pub ReadsSo : Reader → Seen → JobEnd → Type 0
ReadsSo reader seen ends.Done = JobReadsWhole reader seen
ReadsSo reader seen (ends.Fault fault) = JobReadsFault reader seen fault
ReadsSo reader seen (ends.Outside outsides.ShelfFault) =
    (seen.to ≡ seen.before) ⊎ JobReleasesFront reader seen
ReadsSo reader seen (ends.Outside outsides.InputTooLong) =
    JobReleasesFront reader seen × (most_input ≤ length (held_or_none seen.from))
ReadsSo reader seen end = ⊥

-- of any job's work; nothing is said here of an encrypt job
abbrev pub WorkReadsSo : List WrapKeyValue → Work → Seen → JobEnd → Type 0
WorkReadsSo keys (Encrypt length frame context required) seen end = ⊤
WorkReadsSo keys (Decrypt given required) seen end =
    ReadsSo (reader_for keys given required) seen end

-- a job and its line, where the shelf tells its files before the batch and after it
abbrev pub IsReadBy : List WrapKeyValue → Option Files → Option Files → Job → JobLine → Type 0
IsReadBy keys before after job line = (files left : Files) → before ≡ Some files → after ≡ Some left
    → WorkReadsSo keys job.work (seen_of job files left [] line) line.end

-- The job file means these jobs, the keyring file that it names was read as this tree, and the
-- output gained the report of the jobs, one line for each. This is left of the tree: a steady one
-- didn't fail. Where the tree tells its keys, didn't fail, and is steady if there is a cache, each
-- decrypt job is read by these keys.
pub record ShowsJudgements (trees : Trees) (name : List ℕ) (before after : Objects) : Type 0 where
  pub file : JobFile
  pub tree : KeyringMeaning
  pub left : KeyringMeaning
  pub read : ShelfState
  pub lines : List JobLine
  pub has : HasJobs trees name before.shelf read file tree
  pub kept : trees.kept ≡ Some left
  pub still : tree.steady ≡ true → Stayed tree.faults left.faults
  pub gained : Appends before.output.written after.output.written (report_of lines)
  pub each : length lines ≡ length file.jobs
  pub judged : (keys : List WrapKeyValue) → tree.keys ≡ Some keys
      → Stayed tree.faults left.faults → IsSteadyIfCached file.cache tree
      → AllZip (IsReadBy keys before.shelf.files after.shelf.files) file.jobs lines

-- ---- jobs that must be done

-- An encrypt job that asks so must be done: the file that it reads holds a text, the tree refuses
-- nothing of it, and the text is no longer than was declared, than a message has room for, and than
-- is taken of a file.
pub record MustSeal (tree : KeyringMeaning) (from : Option (List ℕ)) (asked : SealAsked)
    : Type 0 where
  pub text : List ℕ
  pub holds : from ≡ Some text
  pub unrefused : refusal_over asked.context tree ≡ None
  pub room : length text ≤ most_sealed asked
  pub few : length text < most_input

-- A decrypt job with these pairs must be done: the tree tells its keys, and is steady if there is a
-- cache, and the file that the job reads holds a whole message to these.
pub record MustOpen (cache : Option LimitsValue) (tree : KeyringMeaning) (from : Option (List ℕ))
    (given : List KeyValue) (required : List (List ℕ)) : Type 0 where
  pub keys : List WrapKeyValue
  pub bytes : List ℕ
  pub steady : IsSteadyIfCached cache tree
  pub told : tree.keys ≡ Some keys
  pub holds : from ≡ Some bytes
  pub few : length bytes < most_input
  pub whole : (judged_by (reader_for keys given required) bytes).verdict ≡ Whole

-- a job is done that must be, by its work and what the file holds that it reads
abbrev pub WorksIfItMust : Option LimitsValue → KeyringMeaning → Work → Option (List ℕ) → JobLine
    → Type 0
WorksIfItMust cache tree (Encrypt length frame context required) from line =
    MustSeal tree from (record {
      declared = length;
      frame = frame;
      context = context;
      required = required;
    }) → is_done line ≡ true
WorksIfItMust cache tree (Decrypt given required) from line =
    MustOpen cache tree from given required → is_done line ≡ true

-- The output gained the report of these jobs, one line for each, and each that must be is done.
pub record DoesJobs (cache : Option LimitsValue) (tree : KeyringMeaning) (files : Option Files)
    (jobs : List Job) (before after : SinkState) : Type 0 where
  pub lines : List JobLine
  pub gained : Appends before.written after.written (report_of lines)
  pub done : AllZip (λ job line. WorksIfItMust cache tree job.work (file_of files job.from) line)
      jobs lines

-- No count of faults rose of the shelf, the output, the entropy and the tree, and none is at its
-- end.
pub record NothingOfBatchFails (trees : Trees) (tree : KeyringMeaning) (before after : Objects)
    : Type 0 where
  pub reading : Stayed before.shelf.faults after.shelf.faults
  pub writing : Stayed before.output.faults after.output.faults
  pub drawing : Stayed before.entropy.faults after.entropy.faults
  pub opening : (left : KeyringMeaning) → trees.kept ≡ Some left → Stayed tree.faults left.faults
