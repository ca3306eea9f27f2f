-- What a batch's report shows of the ages of its cache's entries.
use Rattle.std.proofs.Common.{◌≡◌, ◌∙◌, ℕ, List, [], ◌∷◌, ◌++◌, Ok, Err, inl, inr, sym, ap, subst}
use Rattle.std.specs.Prelude.{IfOk, ◌⊎◌}
use Rattle.std.specs.declared.option.Option.{Option}
use Rattle.std.specs.declared.result.Result.{Result}
use Rattle.esdk_base.specs.Shelf.{Files}
use Rattle.esdk_base.specs.Streams.{ClockState, EntropyState, ShelfState, SinkState}
use Rattle.keyring_trait.specs.declared.journal.JournalLine.{JournalLine}
use Rattle.cmm_caching.specs.Journal.{KeepsWithin}
use Rattle.cmm_caching.specs.Limits.{LimitsValue}
use Rattle.job_file.specs.JobFile.{JobFile}
use Rattle.whole_input.specs.FileReads.{ReadsWholeFile, reads_in_row}
use Rattle.whole_input.proofs.Agreeing.{grows_more}
use Rattle.batch_report.specs.declared.job_lines.JobLine.{JobLine}
use Rattle.esdk_batch.specs.Batch.{RunsBatch, SaysWhatWasServed}
use Rattle.keyring_trait.specs.Saying.{Saying}
use Rattle.esdk_batch.specs.Moments.{ReadsClock}
use Rattle.esdk_batch.specs.ShelfCalls.{AnnouncesFirst}
use Rattle.esdk_batch.proofs.Announced.{first_grows}
use Rattle.esdk_report.specs.declared.failure.Failure.{Failure}
use Rattle.esdk_report.specs.Report.{Reports}
use Rattle.esdk_run.specs.Ages.{ServesFileInTime, ServesInTime, ShowsAges}
use Rattle.esdk_run.specs.Batch.{JobsAre}
use Rattle.esdk_run.proofs.Showing.{each_has_a_line}
use Rattle.esdk_run.proofs.Statuses.{not_done, not_seven}

-- a batch whose journal was empty before
pub serves_in_time : {E : Type 0} (manager : Saying) (file : JobFile) (old new : Option Files) (entropy spent : EntropyState) (before after shown : List JournalLine) (clock ticked : ClockState)
    (limits : Option LimitsValue) (r : Result (List JobLine) E) → before ≡ [] → shown ≡ after → limits ≡ file.cache → KeepsWithin limits shown → ReadsClock clock ticked before after
    → IfOk r (RunsBatch manager file 0 old new entropy spent before after) → IfOk r (ServesInTime file clock ticked)
serves_in_time manager file old new entropy spent before after shown clock ticked limits (Err error) none is_shown is within reads runs = tt
serves_in_time manager file old new entropy spent before after shown clock ticked limits (Ok lines) none is_shown is within reads runs =
    let all : after ≡ runs.gained = runs.journal ∙ ap (λ (b : List JournalLine). b ++ runs.gained) none in
    record {
      each = each_has_a_line _ _ _ file.jobs runs.draws lines runs.jobs;
      journal = after;
      within = subst (λ (j : List JournalLine). KeepsWithin file.cache j) is_shown (subst (λ (l : Option LimitsValue). KeepsWithin l shown) is within);
      served = subst (λ (j : List JournalLine). SaysWhatWasServed file.jobs lines j) (sym all) runs.served;
      moments = subst (λ (b : List JournalLine). ReadsClock clock ticked b after) none reads;
    }

-- behind the reads of the job file and of the keyring file
pub serves_file : {E : Type 0} (name keyring bytes : List ℕ) (old between read new : ShelfState) (file : JobFile) (clock ticked : ClockState) (r : Result (List JobLine) E)
    → JobsAre old between name file → ReadsWholeFile keyring between.calls read.calls bytes → AnnouncesFirst file.jobs read new → IfOk r (ServesInTime file clock ticked)
    → IfOk r (ServesFileInTime name old new clock ticked)
serves_file name keyring bytes old between read new file clock ticked (Err error) jobs reads calls serves = tt
serves_file name keyring bytes old between read new file clock ticked (Ok lines) jobs reads calls serves = record {
  file = file;
  between = between;
  jobs = jobs;
  grown = grows_more between.calls read.calls new.calls (reads_in_row keyring 0 (reads.pieces ++ [] ∷ []), reads.calls) (first_grows file.jobs read new calls);
  serves = serves;
}

-- ---- a run of `batch`, as its command ends it

pub ages_kept : (name other : List ℕ) (shelf after : ShelfState) (output put : SinkState) (clock ticked : ClockState) (code : ℕ) → other ≡ name
    → ShowsAges other shelf after output put clock ticked → (code ≡ 0) ⊎ (code ≡ 7) → ShowsAges name shelf after output put clock ticked
ages_kept name other shelf after output put clock ticked code same shows = λ reported. subst (λ (n : List ℕ). ShowsAges n shelf after output put clock ticked) same shows

pub no_ages : (name : List ℕ) (shelf after : ShelfState) (output put report reported : SinkState) (clock ticked : ClockState) (code : ℕ) (failure : Failure) → Reports failure code report reported
    → (code ≡ 0) ⊎ (code ≡ 7) → ShowsAges name shelf after output put clock ticked
no_ages name shelf after output put report reported clock ticked code failure said (inl zero) = absurd (not_done failure code report reported said zero)
no_ages name shelf after output put report reported clock ticked code failure said (inr seven) = absurd (not_seven failure code report reported said seven)
