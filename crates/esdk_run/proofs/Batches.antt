-- What `batch` and `gen` leave, and when they must be done.
use Rattle.std.proofs.Common.{◌≡◌, ◌⊎◌, ◌∙◌, ℕ, Bool, true, false, List, [], ◌∷◌, ◌++◌, Ok, inl, inr, refl, sym, ap, subst, arith}
use Rattle.std.proofs.lemmas.Result.{IfErr-weaker}
use Rattle.std.specs.Prelude.{IfErr, IfSome, is_some, if◌then◌else◌}
use Rattle.std.specs.declared.result.Result.{Result}
use Rattle.std.specs.List.{list_all}
use Rattle.std.specs.declared.option.Option.{Option}
use Rattle.esdk_base.specs.Receiver.{SinkFails}
use Rattle.esdk_base.specs.Shelf.{Files, Holds}
use Rattle.esdk_base.specs.Streams.{EntropyState, ShelfState, SinkState}
use Rattle.esdk_fields.specs.Counts.{Stayed}
use Rattle.whole_input.specs.FileReads.{reads_in_row}
use Rattle.whole_input.proofs.Agreeing.{grows_more}
use Rattle.esdk_fields.specs.declared.refusals.FileRefusal.{FileRefusal}
use Rattle.esdk_fields.specs.declared.refusals.Outside.TheVariants as outsides
use Rattle.keyring_trait.specs.declared.journal.JournalLine.{JournalLine}
use Rattle.keyring_trait.specs.Keyring.{KeyringMeaning}
use Rattle.cmm_caching.specs.Journal.{KeepsWithin}
use Rattle.job_file.specs.JobFile.{JobFile}
use Rattle.batch_report.specs.declared.job_lines.JobLine.{JobLine}
use Rattle.batch_report.specs.BatchReport.{is_done, report_of}
use Rattle.esdk_batch.specs.Batch.{OnlyWritten}
use Rattle.esdk_batch.specs.ShelfCalls.{AnnouncesFirst}
use Rattle.esdk_batch.proofs.Announced.{told_grows}
use Rattle.esdk_gen.specs.Generator.{gen_line}
use Rattle.esdk_report.specs.declared.failure.Failure.{Failure}
use Rattle.esdk_report.specs.declared.failure.Failure.TheVariants as failures
use Rattle.esdk_report.specs.Report.{Reports}
use Rattle.esdk_run.specs.Batch.{BatchFails, ChangesOnlyWritten, HasNoJobs, JobsAre, JobsFail, JobsHaveNoTree, RunsJobFile, RunsSomeTurns, jobs_in}
use Rattle.esdk_run.specs.FileReading.{FileFails}
use Rattle.esdk_run.specs.Generate.{GenFails}
use Rattle.esdk_run.specs.Objects.{Objects, Unchanged}
use Rattle.esdk_run.specs.Run.{BatchRuns, Fails, GenRuns, RunsAllJobs, is_status}
use Rattle.esdk_run.specs.Serving.{TreeOutlasts}
use Rattle.esdk_run.specs.TextPut.{TextFails}
use Rattle.esdk_run.specs.Served.{Generates, HoldsJobs, ShowsLimits}
use Rattle.esdk_run.specs.Told.{HoldsTree, IsDoneOrMemory}
use Rattle.esdk_run.specs.Trees.{IsLawful, IsUntouched, TreeIs, Trees}
use Rattle.esdk_run.proofs.Promised.{RunsWhatIsHeld}
use Rattle.esdk_run.proofs.Files.{file_is_held, held_is_read, held_is_taken, no_read_fails, not_refused}
use Rattle.esdk_run.proofs.Preparing.{by_file}
use Rattle.esdk_run.proofs.Showing.{each_has_a_line, shows_limits}
use Rattle.esdk_run.proofs.Statuses.{jobs_status, memory_status, not_done, not_seven}

-- ---- the status

pub run_status : (trees : Trees) (name : List ℕ) (before after : Objects) (code : ℕ) → RunsAllJobs trees name before after code → is_status code ≡ true
run_status trees name before after code runs = jobs_status (list_all is_done runs.lines) code runs.writes.status

-- ---- a run of `batch`, as its command ends it

pub batch_reported : (trees : Trees) (name other : List ℕ) (before after : Objects) (unwritten undrawn : Type 0) (code : ℕ) → other ≡ name → RunsAllJobs trees other before after code
    → RunsAllJobs trees name before after code ⊎ Fails (BatchFails trees name before after unwritten undrawn) code before.report after.report
batch_reported trees name other before after unwritten undrawn code same runs = inl (subst (λ (n : List ℕ). RunsAllJobs trees n before after code) same runs)

pub batch_failed : (trees : Trees) (name other : List ℕ) (before after : Objects) (unwritten undrawn : Type 0) (code : ℕ) (failure : Failure) → other ≡ name
    → BatchFails trees other before after unwritten undrawn failure → Reports failure code before.report after.report
    → RunsAllJobs trees name before after code ⊎ Fails (BatchFails trees name before after unwritten undrawn) code before.report after.report
batch_failed trees name other before after unwritten undrawn code failure same because said =
    inr (record { failure = failure; because = subst (λ (n : List ℕ). BatchFails trees n before after unwritten undrawn failure) same because; said = said })

-- ---- why the jobs weren't run

-- there are none to run
no_jobs : (trees : Trees) (name : List ℕ) (old new : ShelfState) (undrawn : Type 0) (failure : Failure) → HasNoJobs trees name old new failure → IsUntouched trees undrawn → JobsFail trees name old new undrawn failure
no_jobs trees name old new undrawn failure none same =
    elim none.cause [
      | inl fails ↦
          by_file (jobs_in name) old new name (λ (f : Failure). HasNoJobs trees name old new f → JobsFail trees name old new undrawn f) (λ refusal unread. (unread, same)) (λ unread. (unread, same))
          (λ lacks. inl (lacks, same)) failure fails none
      | inr has ↦
          by_file trees.read has.between new has.file.keyring (λ (f : Failure). HasNoJobs trees name old new f → JobsFail trees name old new undrawn f) (λ refusal unread. (unread, same)) (λ unread. (unread, same))
          (λ lacks. inl (lacks, same)) failure has.cause none
    ]

-- the job file gives none
pub no_jobs_file : (trees : Trees) (name : List ℕ) (old new : ShelfState) (undrawn : Type 0) (failure : Failure) → IsUntouched trees undrawn → new.files ≡ old.files
    → FileFails (jobs_in name) old new name failure → JobsFail trees name old new undrawn failure
no_jobs_file trees name old new undrawn failure same stay fails = no_jobs trees name old new undrawn failure (record { cause = inl fails; stay = stay }) same

-- or the keyring file gives no tree
pub no_jobs_tree : (trees : Trees) (name keyring : List ℕ) (old mid new : ShelfState) (undrawn : Type 0) (file : JobFile) (failure : Failure) → IsUntouched trees undrawn → JobsAre old mid name file
    → keyring ≡ file.keyring → new.files ≡ mid.files → FileFails trees.read mid new keyring failure → JobsFail trees name old new undrawn failure
no_jobs_tree trees name keyring old mid new undrawn file failure same jobs named stay fails =
    no_jobs trees name old new undrawn failure (record {
      cause = inr (record { file = file; between = mid; jobs = jobs; cause = subst (λ (n : List ℕ). FileFails trees.read mid new n failure) named fails });
      stay = stay ∙ jobs.stay;
    }) same

-- or memory ran out behind both files
pub some_turns : (trees : Trees) (name keyring : List ℕ) (old mid read new : ShelfState) (undrawn : Type 0) (file : JobFile) (tree : KeyringMeaning) → JobsAre old mid name file → keyring ≡ file.keyring
    → TreeIs trees.read mid read keyring tree → IsLawful tree → read.files ≡ mid.files → IfSome trees.kept (TreeOutlasts file.cache tree) → OnlyWritten file.jobs read.files new.files
    → is_some new.files ≡ is_some read.files → AnnouncesFirst file.jobs read new → JobsFail trees name old new undrawn failures.Memory
some_turns trees name keyring old mid read new undrawn file tree jobs named is lawful stay goes others told calls = inr (record {
  file = file;
  tree = tree;
  read = read;
  has = record { between = mid; jobs = jobs; keyring = subst (λ (n : List ℕ). TreeIs trees.read mid read n tree) named is; lawful = lawful; stay = stay ∙ jobs.stay };
  goes = goes;
  others = others;
  told = told;
  calls = calls;
})

-- then nothing was written
pub jobs_unwritten : (trees : Trees) (name : List ℕ) (before after : Objects) (unwritten undrawn : Type 0) (failure : Failure) → unwritten → JobsFail trees name before.shelf after.shelf undrawn failure
    → BatchFails trees name before after unwritten undrawn failure
jobs_unwritten trees name before after unwritten undrawn (failures.Outside outsides.SinkFault) same fails = absurd fails
jobs_unwritten trees name before after unwritten undrawn failures.Memory same fails = (inl fails, same)
jobs_unwritten trees name before after unwritten undrawn failure same fails = (fails, same)

-- else the output failed, or memory ran out for the report
report_lost : (trees : Trees) (name : List ℕ) (before after : Objects) (unwritten undrawn : Type 0) (lines : List JobLine)
    → RunsJobFile trees name before.shelf after.shelf before.entropy after.entropy lines → (failure : Failure) → TextFails (report_of lines) before.output after.output unwritten failure
    → BatchFails trees name before after unwritten undrawn failure
report_lost trees name before after unwritten undrawn lines runs (failures.Outside outsides.SinkFault) fails = record { lines = lines; runs = runs; front = fails }
report_lost trees name before after unwritten undrawn lines runs failures.Memory fails = (inr (lines, runs), fails)
report_lost trees name before after unwritten undrawn lines runs failure fails = absurd fails

pub report_unwritten : {T : Type 0} (trees : Trees) (name : List ℕ) (before after : Objects) (unwritten undrawn : Type 0) (lines : List JobLine) (r : Result T Failure)
    → RunsJobFile trees name before.shelf after.shelf before.entropy after.entropy lines → IfErr r (TextFails (report_of lines) before.output after.output unwritten)
    → IfErr r (BatchFails trees name before after unwritten undrawn)
report_unwritten trees name before after unwritten undrawn lines r runs fails =
    IfErr-weaker r (TextFails (report_of lines) before.output after.output unwritten) (BatchFails trees name before after unwritten undrawn)
    (report_lost trees name before after unwritten undrawn lines runs) fails

-- ---- the limits

all_shown : (trees : Trees) (name : List ℕ) (before after : Objects) (code : ℕ) → RunsAllJobs trees name before after code → ShowsLimits name before after
all_shown trees name before after code runs =
    let ran = runs.runs.runs.runs in
    let keyring = runs.runs.has.keyring.file.read in
    record {
      file = runs.runs.file;
      between = runs.runs.has.between;
      lines = runs.lines;
      jobs = runs.runs.has.jobs;
      grown = grows_more runs.runs.has.between.calls runs.runs.read.calls after.shelf.calls (reads_in_row runs.runs.file.keyring 0 (keyring.pieces ++ [] ∷ []), keyring.calls)
          (told_grows runs.runs.file.jobs runs.runs.read after.shelf runs.runs.finished.has.made runs.runs.finished.has.calls);
      gained = runs.writes.gained;
      each = each_has_a_line _ _ _ runs.runs.file.jobs ran.draws runs.lines ran.jobs;
      within = shows_limits runs.runs.file.cache _ _ _ runs.runs.file.jobs ran.draws runs.lines ran.gained ran.jobs ran.served
          (subst (λ (j : List JournalLine). KeepsWithin runs.runs.file.cache j) ran.journal runs.runs.runs.within);
    }

pub keeps_limits : (trees : Trees) (name : List ℕ) (before after : Objects) (unchanged : Unchanged) (code : ℕ)
    → BatchRuns trees name before after unchanged code → (code ≡ 0) ⊎ (code ≡ 7) → ShowsLimits name before after
keeps_limits trees name before after unchanged code (inl runs) reported = all_shown trees name before after code runs
keeps_limits trees name before after unchanged code (inr fails) (inl zero) = absurd (not_done fails.failure code before.report after.report fails.said zero)
keeps_limits trees name before after unchanged code (inr fails) (inr seven) = absurd (not_seven fails.failure code before.report after.report fails.said seven)

-- ---- the files

pub run_changes : {trees : Trees} {name : List ℕ} {old new : ShelfState} {entropy spent : EntropyState} {lines : List JobLine}
    → RunsJobFile trees name old new entropy spent lines → ChangesOnlyWritten name old new
run_changes {new = new} runs = record {
  file = runs.file;
  between = runs.has.between;
  jobs = runs.has.jobs;
  others = subst (λ (files : Option Files). OnlyWritten runs.file.jobs files new.files) runs.has.stay runs.others;
  told = runs.told ∙ ap is_some runs.has.stay;
}

turns_change : {trees : Trees} {name : List ℕ} {old new : ShelfState} → RunsSomeTurns trees name old new → ChangesOnlyWritten name old new
turns_change {new = new} turns = record {
  file = turns.file;
  between = turns.has.between;
  jobs = turns.has.jobs;
  others = subst (λ (files : Option Files). OnlyWritten turns.file.jobs files new.files) turns.has.stay turns.others;
  told = turns.told ∙ ap is_some turns.has.stay;
}

failing_keeps : (trees : Trees) (name : List ℕ) (before after : Objects) (unwritten undrawn : Type 0) (failure : Failure)
    → BatchFails trees name before after unwritten undrawn failure → (after.shelf.files ≡ before.shelf.files) ⊎ ChangesOnlyWritten name before.shelf after.shelf
failing_keeps trees name before after unwritten undrawn failures.NotRead fails = absurd fails.0
failing_keeps trees name before after unwritten undrawn (failures.BadNumber option) fails = absurd fails.0
failing_keeps trees name before after unwritten undrawn (failures.BadPair number) fails = absurd fails.0
failing_keeps trees name before after unwritten undrawn (failures.Fault fault) fails = absurd fails.0
failing_keeps trees name before after unwritten undrawn (failures.File refusal) fails = inl fails.0.0.stay
failing_keeps trees name before after unwritten undrawn (failures.Outside outsides.SinkFault) fails = inr (run_changes fails.runs)
failing_keeps trees name before after unwritten undrawn (failures.Outside outsides.ShelfFault) fails = inl fails.0.0.stay
failing_keeps trees name before after unwritten undrawn (failures.Outside outside) fails = absurd fails.0
failing_keeps trees name before after unwritten undrawn (failures.Refusal refusal) fails = absurd fails.0
failing_keeps trees name before after unwritten undrawn failures.Memory (inl (inl none), same) = inl none.0.stay
failing_keeps trees name before after unwritten undrawn failures.Memory (inl (inr turns), same) = inr (turns_change turns)
failing_keeps trees name before after unwritten undrawn failures.Memory (inr lacks, same) = inr (run_changes lacks.1)

pub keeps_other_files : (trees : Trees) (name : List ℕ) (before after : Objects) (unchanged : Unchanged) (code : ℕ)
    → BatchRuns trees name before after unchanged code → (after.shelf.files ≡ before.shelf.files) ⊎ ChangesOnlyWritten name before.shelf after.shelf
keeps_other_files trees name before after unchanged code (inl runs) = inr (run_changes runs.runs)
keeps_other_files trees name before after unchanged code (inr fails) =
    failing_keeps trees name before after unchanged.output unchanged.entropy fails.failure fails.because

-- ---- files that the shelf tells

-- the jobs that were read are those that the shelf told
pub jobs_are_held : (old between : ShelfState) (name bytes : List ℕ) (held read : JobFile) → Holds old.files name bytes → jobs_in name bytes ≡ Ok held → JobsAre old between name read
    → read ≡ held
jobs_are_held old between name bytes held read holds is jobs = file_is_held (jobs_in name) old between name bytes read held holds is jobs.read

-- and so is the tree
pub tree_still_held : (trees : Trees) (old between : ShelfState) (name : List ℕ) (held read : JobFile) (tree : KeyringMeaning) → read ≡ held → JobsAre old between name read
    → HoldsTree trees old.files held.keyring tree → HoldsTree trees between.files read.keyring tree
tree_still_held trees old between name held read tree same jobs holds =
    subst (λ (files : Option Files). HoldsTree trees files read.keyring tree) (sym jobs.stay)
    (subst (λ (f : JobFile). HoldsTree trees old.files f.keyring tree) (sym same) holds)

held_has_tree : (trees : Trees) (old new : ShelfState) (name : List ℕ) (file : JobFile) (tree : KeyringMeaning) (refusal : FileRefusal) → HoldsJobs trees old.files name file tree
    → FileFails (jobs_in name) old new name (failures.File refusal) ⊎ JobsHaveNoTree trees name old new (failures.File refusal) → ⊥
held_has_tree trees old new name file tree refusal holds (inl refused) = not_refused (jobs_in name) old new name holds.bytes file refusal holds.holds holds.few holds.is refused
held_has_tree trees old new name file tree refusal holds (inr none) =
    let same = jobs_are_held old none.between name holds.bytes file none.file holds.holds holds.is none.jobs in
    held_is_taken trees none.between new none.file.keyring tree refusal (tree_still_held trees old none.between name file none.file tree same none.jobs holds.keyring) none.cause

held_are_read : (trees : Trees) (old new : ShelfState) (name : List ℕ) (file : JobFile) (tree : KeyringMeaning) → HoldsJobs trees old.files name file tree → Stayed old.faults new.faults
    → FileFails (jobs_in name) old new name (failures.Outside outsides.ShelfFault) ⊎ JobsHaveNoTree trees name old new (failures.Outside outsides.ShelfFault) → ⊥
held_are_read trees old new name file tree holds stayed (inl unread) = no_read_fails old new name holds.bytes holds.holds stayed unread.cause
held_are_read trees old new name file tree holds stayed (inr none) =
    let same = jobs_are_held old none.between name holds.bytes file none.file holds.holds holds.is none.jobs in
    held_is_read trees none.between new none.file.keyring tree (tree_still_held trees old none.between name file none.file tree same none.jobs holds.keyring)
    (subst (λ (n : ℕ). Stayed n new.faults) (sym none.jobs.read.file.faults) stayed) none.cause

zero_or_seven : (all : Bool) (code : ℕ) → code ≡ (if all then 0 else 7) → IsDoneOrMemory code ⊎ (code ≡ 7)
zero_or_seven true code is = inl (inl is)
zero_or_seven false code is = inr is

failing_held : (trees : Trees) (name : List ℕ) (before after : Objects) (unwritten undrawn : Type 0) (code : ℕ) (file : JobFile) (tree : KeyringMeaning) (failure : Failure)
    → HoldsJobs trees before.shelf.files name file tree → Stayed before.shelf.faults after.shelf.faults → Stayed before.output.faults after.output.faults
    → BatchFails trees name before after unwritten undrawn failure → Reports failure code before.report after.report → IsDoneOrMemory code
failing_held trees name before after unwritten undrawn code file tree failures.NotRead holds reading writing fails said = absurd fails.0
failing_held trees name before after unwritten undrawn code file tree (failures.BadNumber option) holds reading writing fails said = absurd fails.0
failing_held trees name before after unwritten undrawn code file tree (failures.BadPair number) holds reading writing fails said = absurd fails.0
failing_held trees name before after unwritten undrawn code file tree (failures.Fault fault) holds reading writing fails said = absurd fails.0
failing_held trees name before after unwritten undrawn code file tree (failures.File refusal) holds reading writing fails said =
    absurd (held_has_tree trees before.shelf after.shelf name file tree refusal holds fails.0.0.cause)
failing_held trees name before after unwritten undrawn code file tree (failures.Outside outsides.SinkFault) holds reading writing fails said = absurd (omega (arith, writing, fails.front.rose))
failing_held trees name before after unwritten undrawn code file tree (failures.Outside outsides.ShelfFault) holds reading writing fails said =
    absurd (held_are_read trees before.shelf after.shelf name file tree holds reading fails.0.0.cause)
failing_held trees name before after unwritten undrawn code file tree (failures.Outside outside) holds reading writing fails said = absurd fails.0
failing_held trees name before after unwritten undrawn code file tree (failures.Refusal refusal) holds reading writing fails said = absurd fails.0
failing_held trees name before after unwritten undrawn code file tree failures.Memory holds reading writing fails said =
    inr (memory_status failures.Memory code before.report after.report refl said)

pub runs_what_is_held : (trees : Trees) (name : List ℕ) (before after : Objects) (unchanged : Unchanged) (code : ℕ)
    → BatchRuns trees name before after unchanged code → RunsWhatIsHeld trees name before.shelf after.shelf before.output after.output code
runs_what_is_held trees name before after unchanged code (inl runs) file tree holds reading writing = zero_or_seven (list_all is_done runs.lines) code runs.writes.status
runs_what_is_held trees name before after unchanged code (inr fails) file tree holds reading writing =
    inl (failing_held trees name before after unchanged.output unchanged.entropy code file tree fails.failure holds reading writing fails.because fails.said)

-- ---- `gen`

-- The failure of a generation is the output's, or want of memory.
gen_failed : (seed size : ℕ) (before after : SinkState) (unwritten : Type 0) (code : ℕ) (report reported : SinkState) (failure : Failure)
    → GenFails seed size before after unwritten failure → Reports failure code report reported → ((code ≡ 4) × SinkFails before after (gen_line seed size)) ⊎ ((code ≡ 5) × unwritten)
gen_failed seed size before after unwritten code report reported failures.NotRead fails said = absurd fails
gen_failed seed size before after unwritten code report reported (failures.BadNumber option) fails said = absurd fails
gen_failed seed size before after unwritten code report reported (failures.BadPair number) fails said = absurd fails
gen_failed seed size before after unwritten code report reported (failures.Fault fault) fails said = absurd fails
gen_failed seed size before after unwritten code report reported (failures.File refusal) fails said = absurd fails
gen_failed seed size before after unwritten code report reported (failures.Outside outsides.SinkFault) fails said = inl (said.status, fails)
gen_failed seed size before after unwritten code report reported (failures.Outside outside) fails said = absurd fails
gen_failed seed size before after unwritten code report reported (failures.Refusal refusal) fails said = absurd fails
gen_failed seed size before after unwritten code report reported failures.Memory fails said = inr (said.status, fails)

fails_generating : (seed size : ℕ) (before after : SinkState) (unwritten : Type 0) (code : ℕ) → ((code ≡ 4) × SinkFails before after (gen_line seed size)) ⊎ ((code ≡ 5) × unwritten)
    → Generates seed size before after unwritten code
fails_generating seed size before after unwritten code (inl (four, front)) = record {
  done = λ zero. absurd (omega (arith, four, zero));
  failed = λ is. front;
  otherwise = λ some other. absurd (other four);
  must = λ stayed. absurd (omega (arith, stayed, front.rose));
}
fails_generating seed size before after unwritten code (inr (five, same)) = record {
  done = λ zero. absurd (omega (arith, five, zero));
  failed = λ four. absurd (omega (arith, five, four));
  otherwise = λ some other. same;
  must = λ stayed. inr five;
}

pub generates : (seed size : ℕ) (before after : Objects) (unchanged : Unchanged) (code : ℕ)
    → GenRuns seed size before after unchanged code → Generates seed size before.output after.output unchanged.output code
generates seed size before after unchanged code (inl done) = record {
  done = λ zero. done.1;
  failed = λ four. absurd (omega (arith, done.0.status, four));
  otherwise = λ some other. absurd (some done.0.status);
  must = λ stayed. inl done.0.status;
}
generates seed size before after unchanged code (inr fails) =
    fails_generating seed size before.output after.output unchanged.output code
    (gen_failed seed size before.output after.output unchanged.output code before.report after.report fails.failure fails.because fails.said)
