-- How a run of the program ends.
use Rattle.std.specs.Prelude.{◌≡◌, ◌≢◌, ◌⊎◌, ◌==◌, ◌||◌, ℕ, List, Bool, true, false, Option, Some}
use Rattle.std.specs.Prelude.{None, Result, Ok, Err}
use Rattle.esdk_args.specs.declared.request.DecryptWords.{DecryptWords}
use Rattle.esdk_args.specs.declared.request.EncryptWords.{EncryptWords}
use Rattle.esdk_args.specs.declared.request.ExtractWords.{ExtractWords}
use Rattle.esdk_args.specs.declared.request.ListWords.{ListWords}
use Rattle.esdk_args.specs.declared.request.MigrateWords.{MigrateWords}
use Rattle.esdk_args.specs.declared.request.Request.{Request}
use Rattle.esdk_args.specs.declared.request.ResealWords.{ResealWords}
use Rattle.esdk_args.specs.declared.request.Request.TheVariants as requests
use Rattle.esdk_args.specs.declared.request.WordsFault.{WordsFault}
use Rattle.esdk_base.specs.Streams.{ShelfState, SinkState}
use Rattle.esdk_fields.specs.declared.faults.Fault.{Fault}
use Rattle.context_codec.specs.Context.{KeyValue}
use Rattle.esdk_report.specs.declared.failure.Failure.{Failure}
use Rattle.esdk_report.specs.declared.failure.Failure.TheVariants as failures
use Rattle.batch_report.specs.declared.job_lines.JobLine.{JobLine}
use Rattle.esdk_run.specs.Audit.{AuditEnds, WritesAudit}
use Rattle.esdk_run.specs.Batch.{BatchFails, RunsJobFile, WritesReport}
use Rattle.esdk_run.specs.Decrypt.{DecryptFails, DecryptsInput}
use Rattle.esdk_run.specs.Encrypt.{EncryptFails, EncryptsInput}
use Rattle.esdk_run.specs.Extract.{ExtractFails, ExtractsRange}
use Rattle.esdk_run.specs.Failures.{words_failure}
use Rattle.esdk_run.specs.Migrate.{MigrateFails, WritesMigrated}
use Rattle.esdk_run.specs.Generate.{GenFails, WritesLine}
use Rattle.esdk_run.specs.Objects.{Objects, Unchanged, same_streams, without_entropy}
use Rattle.esdk_run.specs.Reseal.{ResealFails, ResealsAs}
use Rattle.esdk_report.specs.Report.{Reports, TellsContext}
use Rattle.esdk_run.specs.Trees.{IsUntouched, Trees}
use Rattle.esdk_run.specs.UnarmouredList.{ListEndsAs, ListsAs}

-- the statuses with which a run may end
abbrev pub is_status : ℕ → Bool
is_status code = code == 0 || code == 1 || code == 2 || code == 3 || code == 4 || code == 5
    || code == 6 || code == 7

-- ---- what a run touches, by its words

-- the command reads its input
abbrev pub reads_input : Result Request WordsFault → Bool
reads_input (Ok (requests.List words)) = true
reads_input (Ok (requests.Encrypt words)) = true
reads_input (Ok (requests.Decrypt words)) = true
reads_input (Ok (requests.Reseal words)) = true
reads_input (Ok request) = false
reads_input (Err fault) = false

-- the command reads from the shelf
abbrev pub reads_shelf : Result Request WordsFault → Bool
reads_shelf (Ok (requests.List words)) = false
reads_shelf (Ok (requests.Gen seed size)) = false
reads_shelf (Ok request) = true
reads_shelf (Err fault) = false

-- the command is `batch`: it alone writes files of the shelf, and reads the clock
abbrev pub is_batch : Result Request WordsFault → Bool
is_batch (Ok (requests.Batch jobs)) = true
is_batch (Ok request) = false
is_batch (Err fault) = false

-- the command draws from the entropy
abbrev pub draws : Result Request WordsFault → Bool
draws (Ok (requests.Encrypt words)) = true
draws (Ok (requests.Batch jobs)) = true
draws (Ok (requests.Reseal words)) = true
draws (Ok request) = false
draws (Err fault) = false

-- ---- how it ends

-- The failure that ended a run; the status is the failure's, and the report gained its line. Where
-- memory for that line isn't there, they are those of want of memory.
pub record Fails (cause : Failure → Type 0) (code : ℕ) (report reported : SinkState) : Type 0 where
  pub failure : Failure
  pub because : cause failure
  pub said : Reports failure code report reported

-- The status is 0, and the report gained nothing.
pub record IsDone (code : ℕ) (report reported : SinkState) : Type 0 where
  pub status : code ≡ 0
  pub same : reported ≡ report

-- of words that are refused so
abbrev pub RefusesWords : WordsFault → ℕ → SinkState → SinkState → Type 0
RefusesWords fault code report reported =
    Reports (words_failure fault) code report reported
    ⊎ Reports failures.Memory code report reported

-- All was done, and this is so; or a failure of this cause ended the run.
abbrev pub EndsBy : Type 0 → (Failure → Type 0) → ℕ → SinkState → SinkState → Type 0
EndsBy done cause code report reported =
    (IsDone code report reported × done) ⊎ Fails cause code report reported

-- of `list`
abbrev pub ListRuns : ListWords → Objects → Objects → Unchanged → ℕ → Type 0
ListRuns asked before after unchanged code =
    EndsBy (ListsAs asked.armour asked.uncommitted before.input after.input before.output.written
    after.output.written)
    (ListEndsAs asked.armour asked.uncommitted before.input after.input before.output after.output
    unchanged.output) code before.report after.report

-- of `encrypt`
abbrev pub EncryptRuns : Trees → EncryptWords → Objects → Objects → Unchanged → ℕ → Type 0
EncryptRuns trees asked before after unchanged code =
    EndsBy (EncryptsInput trees asked before after)
    (EncryptFails trees asked before after unchanged) code before.report after.report

-- the report was told the whole context; or memory was wanting for its line, and the report was
-- told that
abbrev pub TellsOrLacksMemory : List KeyValue → ℕ → SinkState → SinkState → Type 0
TellsOrLacksMemory context code report reported =
    TellsContext context code report reported ⊎ Reports failures.Memory code report reported

-- The input was decrypted, and the report was told its whole context, or that memory was wanting
-- for it.
pub record DecryptsAndTells (trees : Trees) (asked : DecryptWords) (before after : Objects)
    (code : ℕ) : Type 0 where
  pub context : List KeyValue
  pub done : DecryptsInput trees asked before after context
  pub told : TellsOrLacksMemory context code before.report after.report

-- of `decrypt`
abbrev pub DecryptRuns : Trees → DecryptWords → Objects → Objects → Unchanged → ℕ → Type 0
DecryptRuns trees asked before after unchanged code =
    DecryptsAndTells trees asked before after code
    ⊎ Fails (DecryptFails trees asked before after unchanged) code before.report after.report

-- of `migrate`
abbrev pub MigrateRuns : MigrateWords → Objects → Objects → Unchanged → ℕ → Type 0
MigrateRuns asked before after unchanged code =
    EndsBy (WritesMigrated asked before.shelf after.shelf before.output after.output)
    (MigrateFails asked before.shelf after.shelf before.output after.output unchanged.output) code
    before.report after.report

-- The jobs of the file of this name were run, and their report was written. The status says whether
-- all are done, and the report of failures gained nothing.
pub record RunsAllJobs (trees : Trees) (name : List ℕ) (before after : Objects) (code : ℕ)
    : Type 0 where
  pub lines : List JobLine
  pub runs : RunsJobFile trees name before.shelf after.shelf before.entropy after.entropy lines
  pub writes : WritesReport lines before.output after.output code
  pub same : after.report ≡ before.report

-- of `batch`
abbrev pub BatchRuns : Trees → List ℕ → Objects → Objects → Unchanged → ℕ → Type 0
BatchRuns trees name before after unchanged code =
    RunsAllJobs trees name before after code
    ⊎ Fails (BatchFails trees name before after unchanged.output unchanged.entropy) code
    before.report after.report

-- of `gen`
abbrev pub GenRuns : (seed size : ℕ) → Objects → Objects → Unchanged → ℕ → Type 0
GenRuns seed size before after unchanged code =
    EndsBy (WritesLine seed size before.output after.output)
    (GenFails seed size before.output after.output unchanged.output) code before.report after.report

-- of `extract`
abbrev pub ExtractRuns : Trees → ExtractWords → Objects → Objects → Unchanged → ℕ → Type 0
ExtractRuns trees asked before after unchanged code =
    EndsBy (ExtractsRange trees asked before after)
    (ExtractFails trees asked before after unchanged) code before.report after.report

-- The messages of the file of this name were audited, and the report gained nothing; or a failure
-- ended the run. `unwritten` says that the output is as before.
abbrev pub AuditsBy : Trees → List ℕ → ShelfState → ShelfState → SinkState → SinkState → Type 0 → ℕ
    → SinkState → SinkState → Type 0
AuditsBy trees name old new before after unwritten code report reported =
    (WritesAudit trees name old new before after code × (reported ≡ report))
    ⊎ Fails (AuditEnds trees name old new before after unwritten) code report reported

-- of `audit`
abbrev pub AuditRuns : Trees → List ℕ → Objects → Objects → Unchanged → ℕ → Type 0
AuditRuns trees name before after unchanged code =
    AuditsBy trees name before.shelf after.shelf before.output after.output unchanged.output code
    before.report after.report

-- The input was resealed, and the report was told its whole context, or that memory was wanting for
-- it.
pub record ResealsAndTells (trees : Trees) (asked : ResealWords) (before after : Objects) (code : ℕ)
    : Type 0 where
  pub context : List KeyValue
  pub done : ResealsAs trees asked before after context
  pub told : TellsOrLacksMemory context code before.report after.report

-- of `reseal`
abbrev pub ResealRuns : Trees → ResealWords → Objects → Objects → Unchanged → ℕ → Type 0
ResealRuns trees asked before after unchanged code =
    ResealsAndTells trees asked before after code
    ⊎ Fails (ResealFails trees asked before after unchanged) code before.report after.report

-- No input that begins with a header and its tag is refused for a fault, and no other is done.
abbrev pub AgreesWith : ℕ → Option Fault → Type 0
AgreesWith code None = code ≢ 1
AgreesWith code (Some fault) = code ≢ 0

-- ---- of any words

-- What a run comes to, by what its words ask for. It gives a tree back only where it read one.
abbrev pub RunsAs : Trees → Result Request WordsFault → Objects → Objects → Unchanged → ℕ → Type 0
RunsAs trees (Ok (requests.List asked)) before after unchanged code =
    (trees.kept ≡ None) × ListRuns asked before after unchanged code
RunsAs trees (Ok (requests.Encrypt asked)) before after unchanged code =
    EncryptRuns trees asked before after unchanged code
RunsAs trees (Ok (requests.Decrypt asked)) before after unchanged code =
    DecryptRuns trees asked before after (without_entropy unchanged) code
RunsAs trees (Ok (requests.Migrate asked)) before after unchanged code =
    (trees.kept ≡ None) × MigrateRuns asked before after unchanged code
RunsAs trees (Ok (requests.Batch name)) before after unchanged code =
    BatchRuns trees name before after unchanged code
RunsAs trees (Ok (requests.Gen seed size)) before after unchanged code =
    (trees.kept ≡ None) × GenRuns seed size before after unchanged code
RunsAs trees (Ok (requests.Extract asked)) before after unchanged code =
    ExtractRuns trees asked before after unchanged code
RunsAs trees (Ok (requests.Audit name)) before after unchanged code =
    AuditRuns trees name before after unchanged code
RunsAs trees (Ok (requests.Reseal asked)) before after unchanged code =
    ResealRuns trees asked before after unchanged code
RunsAs trees (Err fault) before after unchanged code =
    IsUntouched trees (same_streams unchanged) × RefusesWords fault code before.report after.report
