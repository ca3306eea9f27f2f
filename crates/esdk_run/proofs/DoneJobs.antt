-- A job of a batch that must be done is done, unless memory runs out or an object fails.
use Rattle.std.proofs.Common.{◌≡◌, ◌∙◌, ℕ, Bool, true, false, List, [], ◌∷◌, length, None, Some, inl, inr, refl, sym, ap, subst, arith}
use Rattle.std.specs.Prelude.{All, is_none, sum_by, zip, if◌then◌else◌}
use Rattle.std.specs.declared.option.Option.{Option}
use Rattle.std.specs.List.{AllZip}
use Rattle.std.proofs.lemmas.List.Elements.{All-head, All-tail}
use Rattle.std.proofs.lemmas.List.Sums.{sum_by-cons}
use Rattle.esdk_base.specs.Shelf.{Files, Holds, file_of, is_missing}
use Rattle.esdk_base.specs.Streams.{ShelfState}
use Rattle.esdk_fields.specs.Counts.{RoseBy, Stayed}
use Rattle.esdk_fields.specs.declared.faults.Fault.{Fault}
use Rattle.esdk_fields.specs.declared.refusals.Outside.TheVariants as outsides
use Rattle.esdk_fields.specs.declared.refusals.Refusal.{Refusal}
use Rattle.esdk_fields.specs.declared.refusals.Refusal.TheVariants as refusals
use Rattle.context_codec.specs.Context.{KeyValue}
use Rattle.keyring_trait.specs.Keyring.{KeyringMeaning}
use Rattle.esdk_decrypt.specs.Decrypt.{fault_at_end}
use Rattle.esdk_decrypt.specs.Told.{judged_by}
use Rattle.job_file.specs.declared.job.Job.{Job}
use Rattle.job_file.specs.declared.job.Work.{Work}
use Rattle.job_file.specs.declared.job.Work.TheVariants.{Encrypt, Decrypt}
use Rattle.job_file.specs.JobFile.{JobFile, is_written}
use Rattle.cmm_caching.specs.Limits.{LimitsValue}
use Rattle.batch_report.specs.declared.job_lines.JobLine.{JobLine}
use Rattle.batch_report.specs.declared.job_lines.JobEnd.{JobEnd}
use Rattle.batch_report.specs.declared.job_lines.JobEnd.TheVariants as ends
use Rattle.batch_report.specs.BatchReport.{is_ended_well}
use Rattle.esdk_batch.specs.Batch.{AllCome, ComesTo, OnlyWritten, WorksSo}
use Rattle.esdk_batch.specs.Failures.{entropy_fails, keyring_fails, shelf_fails, shelf_fails_of}
use Rattle.keyring_trait.specs.Saying.{Saying}
use Rattle.esdk_batch.specs.SealStory.{SealAsked, SealsSo, Seen, held_or_none}
use Rattle.esdk_run.specs.Batch.{HasJobs}
use Rattle.esdk_run.specs.EachJob.{DoesJobs, MustOpen, MustSeal, NothingOfBatchFails, ReadsSo, WorksIfItMust, reader_for}
use Rattle.esdk_run.specs.Objects.{Objects, Unchanged}
use Rattle.esdk_run.specs.Run.{BatchRuns, RunsAllJobs}
use Rattle.esdk_run.specs.Giving.{refusal_over}
use Rattle.esdk_run.specs.Serving.{managing_over}
use Rattle.esdk_run.specs.Told.{HoldsTree}
use Rattle.esdk_run.specs.Trees.{Trees}
use Rattle.esdk_run.proofs.Promised.{DoesWhatItMust}
use Rattle.esdk_run.proofs.Batches.{jobs_are_held, runs_what_is_held, tree_still_held}
use Rattle.esdk_run.proofs.EachJob.{reads_so, seen_with}
use Rattle.esdk_run.proofs.Files.{tree_is_held}
use Rattle.esdk_run.proofs.ReadJobs.{RequiresGiven, read_jobs_keep}
use Rattle.esdk_run.proofs.Statuses.{not_done, not_seven}

-- ---- failures that weren't counted

none_rose : (n before now : ℕ) → RoseBy n before now → Stayed before now → n ≡ 0
none_rose n before now rose stayed = omega (arith, rose, stayed)

-- a file that is held is there, so that its shelf's failure was counted
shelf_is_sound : (files : Option Files) (from bytes : List ℕ) (end : JobEnd) → Holds files from bytes → (if is_missing files from then 0 else shelf_fails end) ≡ 0 → shelf_fails end ≡ 0
shelf_is_sound None from bytes end holds none = absurd cc
shelf_is_sound (Some files) from bytes end holds none =
    let there : is_missing (Some files) from ≡ false = ap is_none holds in
    subst (λ (b : Bool). (if b then 0 else shelf_fails end) ≡ 0) there none

-- ---- an encrypt job

module _ (cache : Option LimitsValue) (tree left : KeyringMeaning) (asked : SealAsked) (seen : Seen) (must : MustSeal tree seen.from asked) where
  -- it reads what is held
  reads_held : (text : List ℕ) → seen.from ≡ Some text → length text ≡ length must.text
  reads_held text from = let same : Some text ≡ Some must.text = sym from ∙ must.holds in ap (λ (t : List ℕ). length t) (let is : text ≡ must.text = cc in is)

  isnt_refused : (refusal : Refusal) → refusal_over asked.context tree ≡ Some refusal → ⊥
  isnt_refused refusal refused = let same : None ≡ Some refusal = sym must.unrefused ∙ refused in absurd cc

  sealing_done : (end : JobEnd) → entropy_fails end ≡ 0 → keyring_fails end ≡ 0 → shelf_fails end ≡ 0 → SealsSo (managing_over cache tree left) asked seen end
      → is_ended_well end ≡ true
  sealing_done ends.Done drawing opening reading so = refl
  sealing_done (ends.Refusal (refusals.OverDeclared n)) drawing opening reading so = absurd (omega (arith, so.over, must.room, reads_held so.text so.from))
  sealing_done (ends.Refusal refusals.TooManyFrames) drawing opening reading so = absurd (omega (arith, so.over, must.room, reads_held so.text so.from))
  sealing_done (ends.Refusal (refusals.TooManyDataKeys n)) drawing opening reading so = absurd so
  sealing_done (ends.Refusal (refusals.HeaderTooLong n)) drawing opening reading so = absurd so
  sealing_done (ends.Refusal refusal) drawing opening reading so = absurd (isnt_refused refusal so.cause)
  sealing_done (ends.Outside outsides.EntropyFault) drawing opening reading so = absurd (omega (arith, drawing))
  sealing_done (ends.Outside outsides.KeyringFault) drawing opening reading so = absurd (omega (arith, opening))
  sealing_done (ends.Outside outsides.ShelfFault) drawing opening reading so = absurd (omega (arith, reading))
  sealing_done (ends.Outside outsides.InputTooLong) drawing opening reading so =
      absurd (omega (arith, must.few, so.long, ap (λ (from : Option (List ℕ)). length (held_or_none from)) must.holds))
  sealing_done (ends.Outside outside) drawing opening reading so = absurd so
  sealing_done (ends.Fault fault) drawing opening reading so = absurd so

-- ---- a decrypt job

module _ (cache : Option LimitsValue) (tree : KeyringMeaning) (given : List KeyValue) (required : List (List ℕ)) (seen : Seen) (must : MustOpen cache tree seen.from given required) where
  has_no_fault : (bytes : List ℕ) (fault : Fault) → seen.from ≡ Some bytes → fault_at_end (judged_by (reader_for must.keys given required) bytes).verdict ≡ Some fault → ⊥
  has_no_fault bytes fault from cause =
      let both : Some bytes ≡ Some must.bytes = sym from ∙ must.holds in
      let same : bytes ≡ must.bytes = cc in
      let whole : fault_at_end (judged_by (reader_for must.keys given required) bytes).verdict ≡ None =
      ap (λ (b : List ℕ). fault_at_end (judged_by (reader_for must.keys given required) b).verdict) same ∙ ap fault_at_end must.whole in
      let none : None ≡ Some fault = sym whole ∙ cause in absurd cc

  opening_done : (end : JobEnd) → shelf_fails end ≡ 0 → ReadsSo (reader_for must.keys given required) seen end → is_ended_well end ≡ true
  opening_done ends.Done reading so = refl
  opening_done (ends.Fault fault) reading so = absurd (has_no_fault so.bytes fault so.releases.from so.cause)
  opening_done (ends.Outside outsides.ShelfFault) reading so = absurd (omega (arith, reading))
  opening_done (ends.Outside outsides.InputTooLong) reading so =
      absurd (omega (arith, must.few, so.1, ap (λ (from : Option (List ℕ)). length (held_or_none from)) must.holds))
  opening_done (ends.Outside outside) reading so = absurd so
  opening_done (ends.Refusal refusal) reading so = absurd so

-- ---- each job

work_done : (cache : Option LimitsValue) (tree left : KeyringMeaning) (work : Work) (from before to : Option (List ℕ)) (drawn : List ℕ) (line : JobLine) → Stayed tree.faults left.faults
    → RequiresGiven work → entropy_fails line.end ≡ 0 → keyring_fails line.end ≡ 0 → ((bytes : List ℕ) → from ≡ Some bytes → shelf_fails line.end ≡ 0)
    → ((bytes : List ℕ) → from ≡ Some bytes → WorksSo (managing_over cache tree left) work (seen_with from before to line.served drawn) line.end) → WorksIfItMust cache tree work from line
work_done cache tree left (Encrypt length frame context required) from before to drawn line stayed are_given drawing opening reading works = λ must.
    sealing_done cache tree left (record { declared = length; frame = frame; context = context; required = required }) (seen_with from before to line.served drawn) must line.end
    drawing opening (reading must.text must.holds) (works must.text must.holds)
work_done cache tree left (Decrypt given required) from before to drawn line stayed are_given drawing opening reading works = λ must.
    let so = works must.bytes must.holds in
    opening_done cache tree given required (seen_with from before to line.served drawn) must line.end (reading must.bytes must.holds)
    (reads_so cache tree left must.keys given required must.steady must.told stayed are_given (seen_with from before to line.served drawn) line.end so.1)

-- what is said of a job holds where the shelf tells the file that it reads: no job writes that, so that the shelf tells still
works_told : (manager : Saying) (jobs : List Job) (job : Job) (before after : Option Files) (drawn bytes : List ℕ) (line : JobLine) → OnlyWritten jobs before after
    → is_written jobs job.from ≡ false → ComesTo manager job before after drawn line → Holds before job.from bytes
    → WorksSo manager job.work (seen_with (file_of before job.from) (file_of before job.to) (file_of after job.to) line.served drawn) line.end
works_told manager jobs job None after drawn bytes line others unread comes holds = absurd cc
works_told manager jobs job (Some files) None drawn bytes line others unread comes holds = let none : None ≡ Some bytes = others job.from unread ∙ holds in absurd cc
works_told manager jobs job (Some files) (Some left) drawn bytes line others unread comes holds = comes.works files left refl refl

first_zero : {A : Type 0} (f : A → ℕ) (x : A) (xs : List A) → sum_by f (x ∷ xs) ≡ 0 → (f x ≡ 0) × (sum_by f xs ≡ 0)
first_zero f x xs none = (omega (arith, none, sum_by-cons f x xs), omega (arith, none, sum_by-cons f x xs))

module _ (cache : Option LimitsValue) (tree left : KeyringMeaning) (stayed : Stayed tree.faults left.faults) (all_jobs : List Job) (before after : Option Files)
    (others : OnlyWritten all_jobs before after) where
  each_done : (jobs : List Job) (drawn : List (List ℕ)) (lines : List JobLine) → All (λ job. RequiresGiven job.work) jobs → All (λ job. is_written all_jobs job.from ≡ false) jobs
      → sum_by (λ line. entropy_fails line.end) lines ≡ 0 → sum_by (λ line. keyring_fails line.end) lines ≡ 0
      → sum_by (λ pair. shelf_fails_of before pair.0 pair.1.end) (zip jobs lines) ≡ 0
      → AllCome (managing_over cache tree left) before after jobs drawn lines → AllZip (λ job line. WorksIfItMust cache tree job.work (file_of before job.from) line) jobs lines
  each_done [] [] [] are_given unread drawing opening reading all = tt
  each_done (job ∷ jobs) (drawn ∷ draws) (line ∷ lines) are_given unread drawing opening reading all =
      let entropy = first_zero (λ (l : JobLine). entropy_fails l.end) line lines drawing in
      let keyring = first_zero (λ (l : JobLine). keyring_fails l.end) line lines opening in
      let shelf = first_zero (λ (pair : Job × JobLine). shelf_fails_of before pair.0 pair.1.end) (job, line) (zip jobs lines) reading in (
        work_done cache tree left job.work (file_of before job.from) (file_of before job.to) (file_of after job.to) drawn line stayed
            (All-head (λ (j : Job). RequiresGiven j.work) job jobs are_given) entropy.0 keyring.0
            (λ bytes holds. shelf_is_sound before job.from bytes line.end holds shelf.0)
            (λ bytes holds. works_told (managing_over cache tree left) all_jobs job before after drawn bytes line others
            (All-head (λ (j : Job). is_written all_jobs j.from ≡ false) job jobs unread) all.0 holds),
        each_done jobs draws lines (All-tail (λ (j : Job). RequiresGiven j.work) job jobs are_given) (All-tail (λ (j : Job). is_written all_jobs j.from ≡ false) job jobs unread)
            entropy.1 keyring.1 shelf.1 all.1,
      )
  each_done jobs drawn lines are_given unread drawing opening reading all = absurd all

-- ---- the batch

-- the tree that was read is the one that the shelf told
read_tree_is_held : (trees : Trees) (name : List ℕ) (old new : ShelfState) (read held : JobFile) (tree held_tree : KeyringMeaning) → read ≡ held → HoldsTree trees old.files held.keyring held_tree
    → HasJobs trees name old new read tree → tree ≡ held_tree
read_tree_is_held trees name old new read held tree held_tree same holds has =
    tree_is_held trees has.between new read.keyring tree held_tree (tree_still_held trees old has.between name held read held_tree same has.jobs holds) has.keyring

-- no read of the two files failed
read_faults : (trees : Trees) (name : List ℕ) (old new : ShelfState) (read : JobFile) (tree : KeyringMeaning) → HasJobs trees name old new read tree → new.faults ≡ old.faults
read_faults trees name old new read tree has = has.keyring.file.faults ∙ has.jobs.read.file.faults

jobs_done : (trees : Trees) (name : List ℕ) (before after : Objects) (code : ℕ) (runs : RunsAllJobs trees name before after code) → NothingOfBatchFails trees runs.runs.tree before after
    → DoesJobs runs.runs.file.cache runs.runs.tree before.shelf.files runs.runs.file.jobs before.output after.output
jobs_done trees name before after code runs nothing =
    let all = runs.runs in
    let ran = all.runs.runs in
    let kept = read_jobs_keep name all.has.jobs.read.bytes all.file all.has.jobs.read.is in
    let stayed : Stayed all.tree.faults all.left.faults = nothing.opening all.left all.kept in
    let reading : Stayed all.read.faults after.shelf.faults =
    subst (λ (n : ℕ). Stayed n after.shelf.faults) (sym (read_faults trees name before.shelf all.read all.file all.tree all.has)) nothing.reading in
    record {
      lines = runs.lines;
      gained = runs.writes.gained;
      done = subst (λ (files : Option Files). AllZip (λ job line. WorksIfItMust all.file.cache all.tree job.work (file_of files job.from) line) all.file.jobs runs.lines) all.has.stay
          (each_done all.file.cache all.tree all.left stayed all.file.jobs all.read.files after.shelf.files all.others all.file.jobs ran.draws runs.lines kept.given kept.unread
          (none_rose _ _ _ all.failures.entropy nothing.drawing) (none_rose _ _ _ all.failures.keyring stayed) (none_rose _ _ _ all.failures.shelf reading) ran.jobs);
    }

pub does_what_it_must : (trees : Trees) (name : List ℕ) (before after : Objects) (unchanged : Unchanged) (code : ℕ)
    → BatchRuns trees name before after unchanged code → DoesWhatItMust trees name before after code
does_what_it_must trees name before after unchanged code (inl runs) file tree holds nothing =
    let has = runs.runs.has in
    let same : runs.runs.file ≡ file = jobs_are_held before.shelf has.between name holds.bytes file runs.runs.file holds.holds holds.is has.jobs in
    let same_tree : runs.runs.tree ≡ tree =
    read_tree_is_held trees name before.shelf runs.runs.read runs.runs.file file runs.runs.tree tree same holds.keyring has in
    let nothing_read : NothingOfBatchFails trees runs.runs.tree before after = subst (λ (t : KeyringMeaning). NothingOfBatchFails trees t before after) (sym same_tree) nothing in
    inr (subst (λ (f : JobFile). DoesJobs f.cache tree before.shelf.files f.jobs before.output after.output) same
    (subst (λ (t : KeyringMeaning). DoesJobs runs.runs.file.cache t before.shelf.files runs.runs.file.jobs before.output after.output) same_tree
    (jobs_done trees name before after code runs nothing_read)))
does_what_it_must trees name before after unchanged code (inr fails) file tree holds nothing =
    elim (runs_what_is_held trees name before after unchanged code (inr fails) file tree holds nothing.reading nothing.writing) [
      | inl (inl zero) ↦ absurd (not_done fails.failure code before.report after.report fails.said zero)
      | inl (inr five) ↦ inl five
      | inr seven ↦ absurd (not_seven fails.failure code before.report after.report fails.said seven)
    ]
