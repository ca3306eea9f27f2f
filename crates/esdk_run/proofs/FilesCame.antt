-- What `extract`, `audit` and `batch` made of the files that came.
use Rattle.std.proofs.Common.{◌≡◌, ◌∙◌, ℕ, ◌+◌, ◌≤◌, List, length, map, inl, inr, refl, sym, ap, subst, arith}
use Rattle.std.specs.Io.KnownBytes.{Appends}
use Rattle.std.specs.Prelude.{◌⊎◌}
use Rattle.esdk_args.specs.declared.request.ExtractWords.{ExtractWords}
use Rattle.esdk_fields.specs.Counts.{Stayed}
use Rattle.esdk_base.specs.Shelf.{Files}
use Rattle.esdk_base.specs.Streams.{EntropyState, ShelfState}
use Rattle.context_codec.specs.Context.{KeyValue}
use Rattle.keyring_trait.specs.Keyring.{KeyringMeaning}
use Rattle.keyring_trait.specs.Saying.{Saying}
use Rattle.keyring_trait.specs.Uses.{AskedOnce}
use Rattle.keyring_trait.proofs.Using.{once-weaker}
use Rattle.multi_keyring.specs.Tree.{all_faults}
use Rattle.job_file.specs.JobFile.{JobFile}
use Rattle.batch_report.specs.declared.job_lines.JobLine.{JobLine}
use Rattle.audit_core.specs.Lines.{audit_lines}
use Rattle.audit_core.specs.Messages.{audited}
use Rattle.audit_core.proofs.Came.{finds_what_came}
use Rattle.esdk_decrypt.specs.Told.{Reader, decrypting_by}
use Rattle.extract_core.specs.declared.errors.ExtractError.TheVariants as errors
use Rattle.extract_core.specs.Extract.{WritesAll}
use Rattle.whole_input.specs.File.{most_file}
use Rattle.whole_input.specs.FileReads.{Grows, IsSeenAs}
use Rattle.whole_input.specs.Pieces.{most_piece}
use Rattle.esdk_report.specs.Report.{Reports}
use Rattle.esdk_report.specs.declared.failure.Failure.{Failure}
use Rattle.esdk_report.specs.declared.failure.Failure.TheVariants as failures
use Rattle.esdk_run.specs.Audit.{WritesAudit, audit_status}
use Rattle.esdk_run.specs.Batch.{RunsWithin}
use Rattle.esdk_run.specs.Extract.{ExtractFails, ExtractionFails, HasTreeFor, as_decryption, extract_asked, extract_reader, range_asked}
use Rattle.esdk_run.specs.Objects.{Objects, Unchanged}
use Rattle.esdk_run.specs.Run.{AuditRuns, BatchRuns, ExtractRuns, RunsAllJobs}
use Rattle.esdk_run.specs.Serving.{managing_over}
use Rattle.esdk_run.specs.Trees.{Trees}
use Rattle.esdk_run.specs.FilesCame.{AuditedWhatCame, BatchedWhatCame, ComeToWhatIsShown, ExtractedWhatCame, ReadsOfWhatCame}
use Rattle.esdk_run.proofs.WhatCame.{tree_came}
use Rattle.esdk_run.proofs.Auditing.{told_many}
use Rattle.esdk_run.proofs.ByUse.{used_extracts}
use Rattle.esdk_run.proofs.Extraction.{Ended, fault_named, gains_written, range_gained, reader_ended}
use Rattle.esdk_run.proofs.Statuses.{fault_status, not_done, not_seven}
use Rattle.esdk_run.specs.ExtractTold.{GainsRange, NamesExtractFault}

-- ---- `extract`

of_what_came : (So : Reader → List ℕ → Type 0) (trees : Trees) (asked : ExtractWords) (before after : Objects) (unwritten : Type 0) (code : ℕ) (t : HasTreeFor trees asked before after) → Grows t.middle.calls after.shelf.calls
    → Ended (extract_asked asked t.given t.tree t.left) asked t.middle before after unwritten code
    → ((reader : Reader) (bytes : List ℕ) → IsSeenAs t.middle after.shelf asked.from bytes → t.middle.given ≤ before.shelf.given + most_file + most_piece → Ended (decrypting_by reader) asked t.middle before after unwritten code → So reader bytes)
    → ReadsOfWhatCame trees asked before after So
of_what_came So trees asked before after unwritten code t grown ended so = record {
  given = t.given;
  pairs = t.has.given.made;
  tree = t.tree;
  left = t.left;
  kept = t.has.kept;
  steady = t.has.goes.still;
  middle = t.middle;
  keyring = tree_came trees asked.keyring before.shelf t.middle t.tree t.has.file;
  grown = grown;
  so = λ keys bytes told stayed read.
      so (extract_reader asked t.given keys) bytes (inr read) (omega (arith, t.has.file.file.most, t.has.file.file.few))
      (reader_ended asked t.middle before after unwritten code t.given t.given t.tree t.left keys refl told stayed ended);
}

-- a range that was written is that of the reader who has the keys that the tree's leaves went by
used_range : (asked : ExtractWords) (before after : Objects) (middle : ShelfState) (given : List KeyValue) (tree left : KeyringMeaning) (written : ℕ) (bytes : List ℕ)
    → middle.given ≤ before.shelf.given + most_file + most_piece
    → WritesAll (extract_asked asked given tree left) (range_asked asked) middle after.shelf before.output after.output written bytes
    → AskedOnce tree.uses left.uses (λ keys. GainsRange (extract_reader asked given keys) asked bytes before after)
used_range asked before after middle given tree left written bytes few w =
    once-weaker tree.uses left.uses _ (λ keys. GainsRange (extract_reader asked given keys) asked bytes before after)
    (λ keys answered. gains_written (extract_reader asked given keys) asked middle before after bytes written few
    (record { answer = w.answer; answered = answered; sound = w.sound; gained = w.gained; count = w.count; read = w.read }))
    (used_extracts (as_decryption asked) given tree left (range_asked asked) bytes w.answer w.answered w.sound)

pub extracts_if_done : (trees : Trees) (asked : ExtractWords) (before after : Objects) (unchanged : Unchanged) (code : ℕ)
    → ExtractRuns trees asked before after unchanged code → code ≡ 0 → ExtractedWhatCame trees asked before after
unfolding of_what_came
extracts_if_done trees asked before after unchanged code (inl done) zero =
    let t = done.1.tree_for in
    record {
      reads = of_what_came (λ reader bytes. GainsRange reader asked bytes before after) trees asked before after unchanged.output code t done.1.grown (inl (done.0, (done.1.written, done.1.done)))
          (λ reader bytes seen few ended. range_gained reader asked t.middle before after unchanged.output code bytes seen few zero ended);
      by_use = λ bytes read. used_range asked before after t.middle t.given t.tree t.left done.1.written bytes (omega (arith, t.has.file.file.most, t.has.file.file.few)) (done.1.done.writes bytes (inr read));
    }
extracts_if_done trees asked before after unchanged code (inr fails) zero =
    absurd (not_done fails.failure code before.report after.report fails.said zero)

pub names_if_fault : (trees : Trees) (asked : ExtractWords) (before after : Objects) (unchanged : Unchanged) (code : ℕ)
    → ExtractRuns trees asked before after unchanged code → code ≡ 1 → ReadsOfWhatCame trees asked before after (λ reader bytes. NamesExtractFault reader asked bytes before after)
names_if_fault trees asked before after unchanged code (inl done) one = absurd (omega (arith, done.0.status, one))
names_if_fault trees asked before after unchanged code (inr fails) one =
    let named = fault_status fails.failure code before.report after.report fails.said one in
    let why : ExtractionFails trees asked before after unchanged.output (errors.Fault named.fault) = subst (ExtractFails trees asked before after unchanged) named.is fails.because in
    let said : Reports (failures.Fault named.fault) code before.report after.report = subst (λ (f : Failure). Reports f code before.report after.report) named.is fails.said in
    let t = why.tree_for in
    of_what_came _ trees asked before after unchanged.output code t why.grown (inr (errors.Fault named.fault, (why.ended, said)))
    (λ reader bytes seen few ended. fault_named reader asked t.middle before after unchanged.output code bytes seen few one ended)

-- ---- `audit`

audited_files : (trees : Trees) (name : List ℕ) (before after : Objects) (code : ℕ) → WritesAudit trees name before.shelf after.shelf before.output after.output code
    → AuditedWhatCame trees name before after code
audited_files trees name before after code done =
    let all = done.all in
    let audits = all.audits in
    let has = audits.has in
    record {
      bytes = has.audit.read.bytes;
      file = all.file;
      between = has.between;
      read = has.audit.read.file.read;
      is = has.audit.read.is;
      tree = audits.tree;
      left = all.left;
      steady = audits.goes.still;
      middle = all.read;
      keyring = record { file = has.keyring.bytes; read = has.keyring.file.read; is = has.keyring.is };
      meanings = all.leaves;
      leaves_are = has.keyring.leaves_are;
      shown = λ leaves tells stayed.
          let still : Stayed (all_faults all.leaves) (all_faults all.leaves_left) = omega (arith, stayed, has.faults, all.faults_left) in
          let found = finds_what_came all.read after.shelf all.leaves all.leaves_left all.file.messages done.found leaves all.each tells still in
          let count : done.count ≡ length leaves = all.count_is ∙ sym (told_many all.leaves leaves tells) in
          let lines : audit_lines done.count done.found ≡ audit_lines (length leaves) (map (audited leaves) found.came) =
          ap (λ (n : ℕ). audit_lines n done.found) count ∙ ap (audit_lines (length leaves)) found.are in
          record {
            messages = found.came;
            came = found.have;
            shows = record {
              gained = subst (λ (t : List ℕ). Appends before.output.written after.output.written t) lines done.writes.gained;
              status = done.writes.status ∙ ap audit_status found.are;
            };
          };
    }

pub audits_if_done : (trees : Trees) (name : List ℕ) (before after : Objects) (unchanged : Unchanged) (code : ℕ) → AuditRuns trees name before after unchanged code
    → (code ≡ 0) ⊎ (code ≡ 7) → AuditedWhatCame trees name before after code
audits_if_done trees name before after unchanged code (inl done) ended = audited_files trees name before after code done.0
audits_if_done trees name before after unchanged code (inr fails) (inl zero) = absurd (not_done fails.failure code before.report after.report fails.said zero)
audits_if_done trees name before after unchanged code (inr fails) (inr seven) = absurd (not_seven fails.failure code before.report after.report fails.said seven)

-- ---- `batch`

shown_to_come : (manager : Saying) (file : JobFile) (old new : ShelfState) (entropy spent : EntropyState) (lines : List JobLine) → RunsWithin manager file old new entropy spent lines
    → (held : Files) → ComeToWhatIsShown manager file.jobs old new entropy spent held lines
shown_to_come manager file old new entropy spent lines within held =
    let ran = within.shown held in record { draws = ran.draws; drawn = ran.drawn.came; come = ran.jobs }

batched_files : (trees : Trees) (name : List ℕ) (before after : Objects) (code : ℕ) → RunsAllJobs trees name before after code → BatchedWhatCame trees name before after code
batched_files trees name before after code all =
    let runs = all.runs in
    record {
      bytes = runs.has.jobs.read.bytes;
      file = runs.file;
      between = runs.has.between;
      read = runs.has.jobs.read.file.read;
      is = runs.has.jobs.read.is;
      tree = runs.tree;
      left = runs.left;
      middle = runs.read;
      keyring = tree_came trees runs.file.keyring runs.has.between runs.read runs.tree runs.has.keyring;
      lines = all.lines;
      jobs = shown_to_come (managing_over runs.file.cache runs.tree runs.left) runs.file runs.read after.shelf before.entropy after.entropy all.lines runs.runs;
      finished = runs.finished;
      gained = all.writes.gained;
      status = all.writes.status;
    }

pub batches_if_run : (trees : Trees) (name : List ℕ) (before after : Objects) (unchanged : Unchanged) (code : ℕ) → BatchRuns trees name before after unchanged code
    → (code ≡ 0) ⊎ (code ≡ 7) → BatchedWhatCame trees name before after code
batches_if_run trees name before after unchanged code (inl all) ended = batched_files trees name before after code all
batches_if_run trees name before after unchanged code (inr fails) (inl zero) = absurd (not_done fails.failure code before.report after.report fails.said zero)
batches_if_run trees name before after unchanged code (inr fails) (inr seven) = absurd (not_seven fails.failure code before.report after.report fails.said seven)
