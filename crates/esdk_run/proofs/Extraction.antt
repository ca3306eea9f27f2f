-- What `extract` comes to, and what it says over the tree that it gives back.
use Rattle.std.proofs.Common.{◌≡◌, ◌⊎◌, ◌∙◌, ℕ, zero, suc, ◌+◌, ◌≤◌, List, None, Some, Result, Ok, Err, inl, inr, refl, sym, ap, subst, arith}
use Rattle.std.specs.Prelude.{IfErr, IfOk, OnOk}
use Rattle.std.specs.Io.KnownBytes.{Appends}
use Rattle.std.specs.declared.option.Option.{Option}
use Rattle.header_codec.specs.Header.{no_limits}
use Rattle.esdk_args.specs.declared.request.ExtractWords.{ExtractWords}
use Rattle.esdk_fields.specs.Counts.{Stayed}
use Rattle.esdk_fields.specs.declared.faults.Fault.{Fault}
use Rattle.esdk_fields.specs.declared.refusals.Outside.TheVariants as outsides
use Rattle.esdk_base.specs.Shelf.{Files, Holds}
use Rattle.esdk_base.specs.Streams.{ShelfState}
use Rattle.context_codec.specs.Context.{KeyValue}
use Rattle.keyring_trait.specs.Keyring.{KeyringMeaning}
use Rattle.keyring_trait.specs.Unlocking.{Unlocking}
use Rattle.keyring_trait.specs.Wrapping.{WrapKeyValue}
use Rattle.esdk_fields.specs.Bytes.{AreBytes}
use Rattle.body_format.specs.declared.verdicts.Verdict.TheVariants.{Whole}
use Rattle.message_format.specs.Judgement.{Judged}
use Rattle.message_format.specs.Reading.{read, unlocking}
use Rattle.esdk_decrypt.specs.Decrypt.{AnswersTo, DecryptAsked}
use Rattle.esdk_decrypt.specs.Told.{Reader, answering_by, decrypting_by, judged_by}
use Rattle.esdk_decrypt.proofs.Readers.{answers_unlocking}
use Rattle.extract_core.specs.declared.errors.ExtractError.{ExtractError}
use Rattle.extract_core.specs.declared.errors.ExtractError.TheVariants as errors
use Rattle.extract_core.specs.Extracted.{ByteRange, Extraction, extracted}
use Rattle.extract_core.specs.Extract.{ExtractEnds, Extracts, WritesAll, most_read, most_bytes_read}
use Rattle.extract_core.specs.Laws.{EndsAsItBegins, ExtractsOfWhole}
use Rattle.extract_core.proofs.Judged.{extracts_whole}
use Rattle.extract_core.proofs.Allowed.{extract_ends_allowed, extracts_allowed}
use Rattle.whole_input.specs.File.{most_file}
use Rattle.whole_input.specs.FileReads.{Grows, IsSeenAs}
use Rattle.whole_input.specs.Pieces.{most_piece}
use Rattle.esdk_report.specs.Report.{Reports}
use Rattle.esdk_report.specs.declared.failure.Failure.{Failure}
use Rattle.esdk_report.specs.declared.failure.Failure.TheVariants as failures
use Rattle.esdk_run.specs.Extract.{ExtractFails, ExtractionFails, HasTreeFor, ReadsOfFile, as_decryption, extract_asked, extract_reader, range_asked}
use Rattle.esdk_run.specs.ExtractTold.{GainsRange, NamesExtractFault, ShelfAndOutputsDontFail, ReadsMessageFile, ReadsTaken, WritesOfContent, extracted_by}
use Rattle.esdk_run.specs.Failures.{extraction_failure}
use Rattle.esdk_run.specs.Objects.{Objects, Unchanged}
use Rattle.esdk_run.specs.Pairs.{context_in}
use Rattle.esdk_run.specs.Prepared.{IsNotPrepared}
use Rattle.esdk_run.specs.Run.{ExtractRuns, IsDone}
use Rattle.esdk_run.specs.Told.{ComesBackBefore, GivesTree, HoldsTree, TreeWasReadFirstAnd, IsDoneOrMemory}
use Rattle.esdk_run.specs.Trees.{IsUntouched, Trees}
use Rattle.esdk_run.proofs.Promised.{SaysWhatItExtracts, ExtractsSoundRanges, ExtractsOfContent, ReadsNoMore}
use Rattle.esdk_run.proofs.Files.{held_is_read, held_is_taken, no_read_fails}
use Rattle.esdk_run.proofs.Given.{one_context, pairs_not_refused}
use Rattle.esdk_run.proofs.Keys.{reader_allows}
use Rattle.esdk_run.proofs.Preparing.{by_cause}
use Rattle.esdk_run.proofs.Statuses.{fault_status, memory_status, not_done}
use Rattle.esdk_run.proofs.TreesBack.{gives_held, if_none_failed, left_is, none_is_some, told_then}

-- ---- the course of a run

pub extract_not_begun : (trees : Trees) (asked : ExtractWords) (before after : Objects) (unchanged : Unchanged) (failure : Failure)
    → IsNotPrepared trees asked.pairs asked.keyring before.shelf after.shelf unchanged.shelf failure → IsUntouched trees unchanged.output → ExtractFails trees asked before after unchanged failure
extract_not_begun trees asked before after unchanged failure cause same =
    by_cause trees asked.pairs asked.keyring before.shelf after.shelf unchanged.shelf (ExtractFails trees asked before after unchanged)
    (λ refusal pairs. (pairs, same)) (λ refusal none. (none, same)) (λ none. inl (none, same)) (λ lacks. inl (lacks, same)) failure cause

extraction_fails : (trees : Trees) (asked : ExtractWords) (before after : Objects) (unchanged : Unchanged) (error : ExtractError)
    → ExtractionFails trees asked before after unchanged.output error → ExtractFails trees asked before after unchanged (extraction_failure error)
extraction_fails trees asked before after unchanged (errors.Fault fault) fails = fails
extraction_fails trees asked before after unchanged (errors.Outside outsides.ShelfFault) fails = inr fails
extraction_fails trees asked before after unchanged (errors.Outside outside) fails = fails
extraction_fails trees asked before after unchanged errors.Memory fails = inr fails

pub extraction_ran : (trees : Trees) (asked : ExtractWords) (before after : Objects) (unchanged : Unchanged) (code : ℕ) (r : Result ℕ ExtractError) (t : HasTreeFor trees asked before after)
    → IfOk r (Extracts (extract_asked asked t.given t.tree t.left) (range_asked asked) t.middle after.shelf asked.from before.output after.output)
    → IfErr r (ExtractEnds (extract_asked asked t.given t.tree t.left) (range_asked asked) t.middle after.shelf asked.from before.output after.output unchanged.output)
    → IfOk r (λ written. after.shelf.faults ≡ t.middle.faults) → Grows t.middle.calls after.shelf.calls → ReadsOfFile asked t.middle after.shelf
    → OnOk r (IsDone code before.report after.report) → IfErr r (λ error. Reports (extraction_failure error) code before.report after.report)
    → ExtractRuns trees asked before after unchanged code
extraction_ran trees asked before after unchanged code (Ok written) t done ends faults grown reads is said =
    inl (is, record { tree_for = t; written = written; done = done; faults = faults; grown = grown; reads = reads })
extraction_ran trees asked before after unchanged code (Err error) t done ends faults grown reads is said = inr (record {
  failure = extraction_failure error;
  because = extraction_fails trees asked before after unchanged error (record { tree_for = t; ended = ends; grown = grown; reads = reads });
  said = said;
})

-- ---- a run that read a tree

-- The extraction ended so.
abbrev pub Ended : DecryptAsked → ExtractWords → ShelfState → Objects → Objects → Type 0 → ℕ → Type 0
Ended about asked middle before after unwritten code =
    (IsDone code before.report after.report × ((written : ℕ) × Extracts about (range_asked asked) middle after.shelf asked.from before.output after.output written))
    ⊎ ((error : ExtractError) × (ExtractEnds about (range_asked asked) middle after.shelf asked.from before.output after.output unwritten error
    × Reports (extraction_failure error) code before.report after.report))

record HadRange (trees : Trees) (asked : ExtractWords) (before after : Objects) (unwritten : Type 0) (code : ℕ) : Type 0 where
  pub tree_for : HasTreeFor trees asked before after
  pub ended : Ended (extract_asked asked tree_for.given tree_for.tree tree_for.left) asked tree_for.middle before after unwritten code

failed_range : (trees : Trees) (asked : ExtractWords) (before after : Objects) (unchanged : Unchanged) (code : ℕ) (left : KeyringMeaning) (failure : Failure) → trees.kept ≡ Some left
    → ExtractFails trees asked before after unchanged failure → Reports failure code before.report after.report → HadRange trees asked before after unchanged.output code
failed_range trees asked before after unchanged code left failures.NotRead kept fails said = absurd fails
failed_range trees asked before after unchanged code left (failures.BadNumber option) kept fails said = absurd fails
failed_range trees asked before after unchanged code left (failures.BadPair number) kept fails said = absurd fails
failed_range trees asked before after unchanged code left (failures.Fault fault) kept fails said = record { tree_for = fails.tree_for; ended = inr (errors.Fault fault, (fails.ended, said)) }
failed_range trees asked before after unchanged code left (failures.File refusal) kept fails said = absurd (none_is_some trees left kept fails.1.none)
failed_range trees asked before after unchanged code left (failures.Outside outsides.ShelfFault) kept (inl fails) said = absurd (none_is_some trees left kept fails.1.none)
failed_range trees asked before after unchanged code left (failures.Outside outsides.ShelfFault) kept (inr fails) said =
    record { tree_for = fails.tree_for; ended = inr (errors.Outside outsides.ShelfFault, (fails.ended, said)) }
failed_range trees asked before after unchanged code left (failures.Outside outside) kept fails said = record { tree_for = fails.tree_for; ended = inr (errors.Outside outside, (fails.ended, said)) }
failed_range trees asked before after unchanged code left (failures.Refusal refusal) kept fails said = absurd (none_is_some trees left kept fails.1.none)
failed_range trees asked before after unchanged code left failures.Memory kept (inl none) said = absurd (none_is_some trees left kept none.1.none)
failed_range trees asked before after unchanged code left failures.Memory kept (inr fails) said = record { tree_for = fails.tree_for; ended = inr (errors.Memory, (fails.ended, said)) }

had_range : (trees : Trees) (asked : ExtractWords) (before after : Objects) (unchanged : Unchanged) (code : ℕ) (left : KeyringMeaning) → trees.kept ≡ Some left
    → ExtractRuns trees asked before after unchanged code → HadRange trees asked before after unchanged.output code
had_range trees asked before after unchanged code left kept (inl done) = record { tree_for = done.1.tree_for; ended = inl (done.0, (done.1.written, done.1.done)) }
had_range trees asked before after unchanged code left kept (inr fails) = failed_range trees asked before after unchanged code left fails.failure kept fails.because fails.said

-- ---- the tree that is given back

held_range : (trees : Trees) (asked : ExtractWords) (before after : Objects) (unchanged : Unchanged) (code : ℕ) (failure : Failure) (context : List KeyValue) (tree : KeyringMeaning) → context_in asked.pairs ≡ Ok context
    → HoldsTree trees before.shelf.files asked.keyring tree → Stayed before.shelf.faults after.shelf.faults → ExtractFails trees asked before after unchanged failure → Reports failure code before.report after.report
    → (code ≡ 5) ⊎ GivesTree trees tree
held_range trees asked before after unchanged code failures.NotRead context tree is holds stayed fails said = absurd fails
held_range trees asked before after unchanged code (failures.BadNumber option) context tree is holds stayed fails said = absurd fails
held_range trees asked before after unchanged code (failures.BadPair number) context tree is holds stayed fails said = absurd fails
held_range trees asked before after unchanged code (failures.Fault fault) context tree is holds stayed fails said = inr (gives_held trees _ _ _ _ _ fails.tree_for.tree fails.tree_for.left tree holds fails.tree_for.has)
held_range trees asked before after unchanged code (failures.File refusal) context tree is holds stayed fails said =
    absurd (held_is_taken trees before.shelf after.shelf asked.keyring tree refusal holds fails.0.cause)
held_range trees asked before after unchanged code (failures.Outside outsides.ShelfFault) context tree is holds stayed (inl fails) said =
    absurd (held_is_read trees before.shelf after.shelf asked.keyring tree holds stayed fails.0.cause)
held_range trees asked before after unchanged code (failures.Outside outsides.ShelfFault) context tree is holds stayed (inr fails) said =
    inr (gives_held trees _ _ _ _ _ fails.tree_for.tree fails.tree_for.left tree holds fails.tree_for.has)
held_range trees asked before after unchanged code (failures.Outside outside) context tree is holds stayed fails said =
    inr (gives_held trees _ _ _ _ _ fails.tree_for.tree fails.tree_for.left tree holds fails.tree_for.has)
held_range trees asked before after unchanged code (failures.Refusal refusal) context tree is holds stayed fails said = absurd (pairs_not_refused asked.pairs context refusal is fails.0.refused)
held_range trees asked before after unchanged code failures.Memory context tree is holds stayed fails said = inl (memory_status failures.Memory code before.report after.report refl said)

pub extract_comes_back : (trees : Trees) (asked : ExtractWords) (before after : Objects) (unchanged : Unchanged) (code : ℕ) → ExtractRuns trees asked before after unchanged code
    → ComesBackBefore trees asked.pairs asked.keyring before.shelf after.shelf code
extract_comes_back trees asked before after unchanged code runs = record {
  read = λ left kept.
      let had = had_range trees asked before after unchanged code left kept runs in
      (had.tree_for.middle, left_is trees _ _ _ _ _ had.tree_for.tree had.tree_for.left left had.tree_for.has kept);
  held = λ context tree is holds stayed. elim runs [
    | inl done ↦ inr (gives_held trees _ _ _ _ _ done.1.tree_for.tree done.1.tree_for.left tree holds done.1.tree_for.has)
    | inr fails ↦ held_range trees asked before after unchanged code fails.failure context tree is holds stayed fails.because fails.said
  ];
}

-- ---- who reads is determined by the words and the tree

pub reader_ended : (asked : ExtractWords) (middle : ShelfState) (before after : Objects) (unwritten : Type 0) (code : ℕ) (pairs given : List KeyValue) (tree left : KeyringMeaning) (keys : List WrapKeyValue)
    → pairs ≡ given → tree.keys ≡ Some keys → Stayed tree.faults left.faults → Ended (extract_asked asked pairs tree left) asked middle before after unwritten code
    → Ended (decrypting_by (extract_reader asked given keys)) asked middle before after unwritten code
reader_ended asked middle before after unwritten code pairs given tree left keys is told stayed (inl (done, (written, extracts))) =
    subst (λ (g : List KeyValue). Ended (decrypting_by (extract_reader asked g keys)) asked middle before after unwritten code) is
    (inl (done, (written, extracts_allowed _ _ no_limits pairs (range_asked asked) middle after.shelf asked.from before.output after.output written (reader_allows (as_decryption asked) pairs tree left keys told stayed) extracts)))
reader_ended asked middle before after unwritten code pairs given tree left keys is told stayed (inr (error, (ends, said))) =
    subst (λ (g : List KeyValue). Ended (decrypting_by (extract_reader asked g keys)) asked middle before after unwritten code) is
    (inr (error, (extract_ends_allowed _ _ no_limits pairs (range_asked asked) middle after.shelf asked.from before.output after.output unwritten error (reader_allows (as_decryption asked) pairs tree left keys told stayed) ends, said)))

-- so what is so of each such end is so of the run
over_reader : (So : Type 0) (trees : Trees) (asked : ExtractWords) (before after : Objects) (unchanged : Unchanged) (code : ℕ) (given : List KeyValue) (keys : List WrapKeyValue) (bytes : List ℕ)
    → ExtractRuns trees asked before after unchanged code → ReadsMessageFile trees asked before given keys bytes
    → ((middle : ShelfState) → middle.files ≡ before.shelf.files → middle.faults ≡ before.shelf.faults → middle.given ≤ before.shelf.given + most_file + most_piece → Ended (decrypting_by (extract_reader asked given keys)) asked middle before after unchanged.output code → So)
    → TreeWasReadFirstAnd trees asked.keyring before.shelf So
over_reader So trees asked before after unchanged code given keys bytes runs reads so =
    let had = had_range trees asked before after unchanged code reads.reads.left reads.reads.kept runs in
    let t = had.tree_for in (
      t.middle,
      if_none_failed trees _ _ _ _ _ t.tree t.left So t.has
          (λ stayed. so t.middle t.files t.has.file.file.faults (omega (arith, t.has.file.file.most, t.has.file.file.few))
          (reader_ended asked t.middle before after unchanged.output code t.given given t.tree t.left keys (one_context asked.pairs t.given given t.has.given.made reads.reads.pairs)
          (told_then trees t.tree t.left reads.reads.left keys t.has.goes t.has.kept reads.reads.kept reads.reads.told) stayed had.ended)),
    )

-- ---- what is extracted

by_reader : (reader : Reader) (bytes : List ℕ) (range : ByteRange) (answer : Unlocking) → AnswersTo (answering_by reader) reader.settings reader.given bytes answer
    → extracted bytes reader.settings answer range ≡ extracted_by reader bytes range
by_reader reader bytes range answer answers = ap (λ (a : Unlocking). extracted bytes reader.settings a range) (answers_unlocking reader bytes answer answers)

-- no more was read than this reader reads
taken_read : (reader : Reader) (bytes : List ℕ) (range : ByteRange) (answer : Unlocking) (before middle after : ShelfState) → AnswersTo (answering_by reader) reader.settings reader.given bytes answer
    → middle.given ≤ before.given + most_file + most_piece → after.given ≤ middle.given + most_bytes_read bytes reader.settings answer range → ReadsTaken reader bytes range before after
taken_read reader bytes range answer before middle after answers few read =
    omega (arith, few, read, ap (λ (a : Unlocking). most_bytes_read bytes reader.settings a range) (answers_unlocking reader bytes answer answers))

held_then : (before : Objects) (middle : ShelfState) (name bytes : List ℕ) → middle.files ≡ before.shelf.files → Holds before.shelf.files name bytes → Holds middle.files name bytes
held_then before middle name bytes same held = subst (λ (f : Option Files). Holds f name bytes) (sym same) held

-- what was written with this reader's answer
pub gains_written : (reader : Reader) (asked : ExtractWords) (middle : ShelfState) (before after : Objects) (bytes : List ℕ) (written : ℕ) → middle.given ≤ before.shelf.given + most_file + most_piece
    → WritesAll (decrypting_by reader) (range_asked asked) middle after.shelf before.output after.output written bytes → GainsRange reader asked bytes before after
gains_written reader asked middle before after bytes written few w =
    let is = by_reader reader bytes (range_asked asked) w.answer w.answered in
    record {
      sound = sym (ap (λ (x : Extraction). x.fault) is) ∙ w.sound;
      gained = subst (λ (x : Extraction). Appends before.output.written after.output.written x.part) is w.gained;
      read = taken_read reader bytes (range_asked asked) w.answer before.shelf middle after.shelf w.answered few w.read;
    }

pub range_gained : (reader : Reader) (asked : ExtractWords) (middle : ShelfState) (before after : Objects) (unwritten : Type 0) (code : ℕ) (bytes : List ℕ) → IsSeenAs middle after.shelf asked.from bytes
    → middle.given ≤ before.shelf.given + most_file + most_piece → code ≡ 0 → Ended (decrypting_by reader) asked middle before after unwritten code → GainsRange reader asked bytes before after
range_gained reader asked middle before after unwritten code bytes held few is_zero (inl (done, (written, extracts))) =
    gains_written reader asked middle before after bytes written few (extracts.writes bytes held)
range_gained reader asked middle before after unwritten code bytes held few is_zero (inr (error, (ends, said))) = absurd (not_done (extraction_failure error) code before.report after.report said is_zero)

-- The run ended with this fault: the output gained what is extracted before it.
record EndsByFault (reader : Reader) (asked : ExtractWords) (middle : ShelfState) (before after : Objects) (bytes : List ℕ) (fault : Fault) : Type 0 where
  pub cause : (extracted_by reader bytes (range_asked asked)).fault ≡ Some fault
  pub gained : Appends before.output.written after.output.written (extracted_by reader bytes (range_asked asked)).part
  pub read : middle.given ≤ before.shelf.given + most_file + most_piece → ReadsTaken reader bytes (range_asked asked) before.shelf after.shelf

-- an end that is called a fault is that fault
fault_ended : (reader : Reader) (asked : ExtractWords) (middle : ShelfState) (before after : Objects) (unwritten : Type 0) (bytes : List ℕ) (fault : Fault) (error : ExtractError) → IsSeenAs middle after.shelf asked.from bytes
    → extraction_failure error ≡ failures.Fault fault → ExtractEnds (decrypting_by reader) (range_asked asked) middle after.shelf asked.from before.output after.output unwritten error
    → EndsByFault reader asked middle before after bytes fault
fault_ended reader asked middle before after unwritten bytes fault (errors.Fault other) held is ends =
    let same : other ≡ fault = cc in
    let w = ends.writes bytes held in
    let by = by_reader reader bytes (range_asked asked) w.answer w.answered in
    record {
      cause = sym (ap (λ (x : Extraction). x.fault) by) ∙ w.fault_is ∙ ap Some same;
      gained = subst (λ (x : Extraction). Appends before.output.written after.output.written x.part) by w.gained;
      read = λ few. taken_read reader bytes (range_asked asked) w.answer before.shelf middle after.shelf w.answered few w.read;
    }
fault_ended reader asked middle before after unwritten bytes fault (errors.Outside outside) held is ends = absurd cc
fault_ended reader asked middle before after unwritten bytes fault errors.Memory held is ends = absurd cc

pub fault_named : (reader : Reader) (asked : ExtractWords) (middle : ShelfState) (before after : Objects) (unwritten : Type 0) (code : ℕ) (bytes : List ℕ) → IsSeenAs middle after.shelf asked.from bytes → middle.given ≤ before.shelf.given + most_file + most_piece → code ≡ 1
    → Ended (decrypting_by reader) asked middle before after unwritten code → NamesExtractFault reader asked bytes before after
fault_named reader asked middle before after unwritten code bytes held few one (inl (done, (written, extracts))) = absurd (omega (arith, done.status, one))
fault_named reader asked middle before after unwritten code bytes held few one (inr (error, (ends, said))) =
    let named = fault_status (extraction_failure error) code before.report after.report said one in
    let found = fault_ended reader asked middle before after unwritten bytes named.fault error held named.is ends in
    record { fault = named.fault; cause = found.cause; gained = found.gained; line = named.line; read = found.read few }

pub says_what_it_extracts : (trees : Trees) (asked : ExtractWords) (before after : Objects) (unchanged : Unchanged) (code : ℕ) → ExtractRuns trees asked before after unchanged code
    → SaysWhatItExtracts trees asked before after code
says_what_it_extracts trees asked before after unchanged code runs given keys bytes reads =
    over_reader _ trees asked before after unchanged code given keys bytes runs reads
    (λ middle files faults few ended. (
      λ is_zero. range_gained (extract_reader asked given keys) asked middle before after unchanged.output code bytes (inl (held_then before middle asked.from bytes files reads.held)) few is_zero ended,
      λ one. fault_named (extract_reader asked given keys) asked middle before after unchanged.output code bytes (inl (held_then before middle asked.from bytes files reads.held)) few one ended,
    ))

-- ---- only want of memory keeps a range without a fault from being extracted

no_other_error : (reader : Reader) (asked : ExtractWords) (middle : ShelfState) (before after : Objects) (unwritten : Type 0) (code : ℕ) (bytes : List ℕ) (error : ExtractError) → Holds middle.files asked.from bytes
    → middle.faults ≡ before.shelf.faults → (extracted_by reader bytes (range_asked asked)).fault ≡ None → ShelfAndOutputsDontFail before after
    → ExtractEnds (decrypting_by reader) (range_asked asked) middle after.shelf asked.from before.output after.output unwritten error → error ≡ errors.Memory
no_other_error reader asked middle before after unwritten code bytes (errors.Fault fault) held same sound nothing ends =
    let found = fault_ended reader asked middle before after unwritten bytes fault (errors.Fault fault) (inl held) refl ends in absurd (let no : None ≡ Some fault = sym sound ∙ found.cause in cc)
no_other_error reader asked middle before after unwritten code bytes (errors.Outside outsides.SourceFault) held same sound nothing ends = absurd ends
no_other_error reader asked middle before after unwritten code bytes (errors.Outside outsides.SinkFault) held same sound nothing ends = absurd (omega (arith, nothing.writing, ends.rose))
no_other_error reader asked middle before after unwritten code bytes (errors.Outside outsides.ShelfFault) held same sound nothing ends =
    absurd (no_read_fails middle after.shelf asked.from bytes held (omega (arith, nothing.reading, same)) ends.0)
no_other_error reader asked middle before after unwritten code bytes (errors.Outside outsides.EntropyFault) held same sound nothing ends = absurd ends
no_other_error reader asked middle before after unwritten code bytes (errors.Outside outsides.KeyringFault) held same sound nothing ends = absurd ends.failed
no_other_error reader asked middle before after unwritten code bytes (errors.Outside outsides.InputTooLong) held same sound nothing ends = absurd ends
no_other_error reader asked middle before after unwritten code bytes errors.Memory held same sound nothing ends = refl

sound_extracted : (reader : Reader) (asked : ExtractWords) (middle : ShelfState) (before after : Objects) (unwritten : Type 0) (code : ℕ) (bytes : List ℕ) → Holds middle.files asked.from bytes
    → middle.faults ≡ before.shelf.faults → (extracted_by reader bytes (range_asked asked)).fault ≡ None → ShelfAndOutputsDontFail before after
    → Ended (decrypting_by reader) asked middle before after unwritten code → IsDoneOrMemory code
sound_extracted reader asked middle before after unwritten code bytes held same sound nothing (inl (done, extracts)) = inl done.status
sound_extracted reader asked middle before after unwritten code bytes held same sound nothing (inr (error, (ends, said))) =
    inr (memory_status (extraction_failure error) code before.report after.report (ap extraction_failure (no_other_error reader asked middle before after unwritten code bytes error held same sound nothing ends)) said)

pub extracts_sound_ranges : (trees : Trees) (asked : ExtractWords) (before after : Objects) (unchanged : Unchanged) (code : ℕ) → ExtractRuns trees asked before after unchanged code
    → ExtractsSoundRanges trees asked before after code
extracts_sound_ranges trees asked before after unchanged code runs given keys bytes reads sound nothing =
    over_reader _ trees asked before after unchanged code given keys bytes runs reads
    (λ middle files faults few ended. sound_extracted (extract_reader asked given keys) asked middle before after unchanged.output code bytes (held_then before middle asked.from bytes files reads.held) faults sound nothing ended)

-- ---- of a whole message

whole_extracted : (reader : Reader) (bytes : List ℕ) (range : ByteRange) → AreBytes bytes
    → (judged_by reader bytes).verdict ≡ Whole → ExtractsOfWhole bytes reader.settings
    (unlocking bytes reader.settings reader.given reader.required reader.keys) range
unfolding read
whole_extracted reader bytes range fits whole =
    extracts_whole bytes reader.settings
    (unlocking bytes reader.settings reader.given reader.required reader.keys) range fits whole

of_content : (reader : Reader) (asked : ExtractWords) (bytes : List ℕ) (before after : Objects)
    (code : ℕ) → AreBytes bytes → (judged_by reader bytes).verdict ≡ Whole
    → (code ≡ 0 → GainsRange reader asked bytes before after)
    × (code ≡ 1 → NamesExtractFault reader asked bytes before after)
    → WritesOfContent reader asked bytes before after code
unfolding read
of_content reader asked bytes before after code fits whole says =
    let range : ByteRange = range_asked asked in
    let j : Judged = judged_by reader bytes in
    let w = whole_extracted reader bytes range fits whole in
    record {
      header = w.header;
      stands = w.stands;
      written = λ few. subst (Appends before.output.written after.output.written) w.part
          (gained code few says);
      done = λ is_zero. subst (EndsAsItBegins w.header.content range j.units) (says.0 is_zero).sound w.ends;
      named = λ one.
          let named = says.1 one in
          record {
            fault = named.fault;
            ends = subst (EndsAsItBegins w.header.content range j.units) named.cause w.ends;
            line = named.line;
          };
    }
  where
    gained : (code : ℕ) → code ≤ 1 → (code ≡ 0 → GainsRange reader asked bytes before after)
        × (code ≡ 1 → NamesExtractFault reader asked bytes before after)
        → Appends before.output.written after.output.written
        (extracted_by reader bytes (range_asked asked)).part
    gained zero few says = (says.0 refl).gained
    gained (suc zero) few says = (says.1 refl).gained
    gained (suc (suc code)) few says = absurd (omega (arith, few))

pub extracts_of_content : (trees : Trees) (asked : ExtractWords) (before after : Objects)
    (unchanged : Unchanged) (code : ℕ) → ExtractRuns trees asked before after unchanged code
    → ExtractsOfContent trees asked before after code
extracts_of_content trees asked before after unchanged code runs given keys bytes reads fits whole =
    let said = says_what_it_extracts trees asked before after unchanged code runs given keys bytes
    reads in
    let none = said.1.2 in (
      said.0,
      (
        said.1.0,
        said.1.1,
        record {
          left = none.left;
          kept = none.kept;
          goes = none.goes;
          so = λ stayed. of_content (extract_reader asked given keys) asked bytes before after code
              fits whole (none.so stayed);
        },
      ),
    )

-- ---- how much is read

-- of the keyring file, and then of the message's
both_read : (trees : Trees) (asked : ExtractWords) (before after : Objects) (bytes : List ℕ) (t : HasTreeFor trees asked before after) → Holds before.shelf.files asked.from bytes → ReadsOfFile asked t.middle after.shelf
    → after.shelf.given ≤ before.shelf.given + most_file + most_piece + most_read no_limits (range_asked asked) bytes
both_read trees asked before after bytes t held reads =
    let more = reads bytes (inl (held_then before t.middle asked.from bytes t.files held)) in
    omega (arith, more, t.has.file.file.most, t.has.file.file.few)

failure_reads : (trees : Trees) (asked : ExtractWords) (before after : Objects) (unchanged : Unchanged) (bytes : List ℕ) (failure : Failure) → (unchanged.shelf → after.shelf ≡ before.shelf)
    → Holds before.shelf.files asked.from bytes → ExtractFails trees asked before after unchanged failure
    → after.shelf.given ≤ before.shelf.given + most_file + most_piece + most_read no_limits (range_asked asked) bytes
failure_reads trees asked before after unchanged bytes failures.NotRead same held fails = absurd fails
failure_reads trees asked before after unchanged bytes (failures.BadNumber option) same held fails = absurd fails
failure_reads trees asked before after unchanged bytes (failures.BadPair number) same held fails = absurd fails
failure_reads trees asked before after unchanged bytes (failures.Fault fault) same held fails = both_read trees asked before after bytes fails.tree_for held fails.reads
failure_reads trees asked before after unchanged bytes (failures.File refusal) same held fails = elim fails.0.cause [
  | inl long ↦ omega (arith, long.1.most)
  | inr refused ↦ omega (arith, refused.file.most, refused.file.few)
]
failure_reads trees asked before after unchanged bytes (failures.Outside outsides.ShelfFault) same held (inl fails) = omega (arith, fails.0.cause.most)
failure_reads trees asked before after unchanged bytes (failures.Outside outsides.ShelfFault) same held (inr fails) = both_read trees asked before after bytes fails.tree_for held fails.reads
failure_reads trees asked before after unchanged bytes (failures.Outside outside) same held fails = both_read trees asked before after bytes fails.tree_for held fails.reads
failure_reads trees asked before after unchanged bytes (failures.Refusal refusal) same held fails =
    let unread = ap (λ (s : ShelfState). s.given) (same fails.0.shelf) in omega (arith, unread)
failure_reads trees asked before after unchanged bytes failures.Memory same held (inl (inl unread, none)) =
    let still = ap (λ (s : ShelfState). s.given) (same unread) in omega (arith, still)
failure_reads trees asked before after unchanged bytes failures.Memory same held (inl (inr lacks, none)) = elim lacks.cause [
  | inl early ↦ omega (arith, early.most)
  | inr late ↦ omega (arith, late.1.most, late.1.few)
]
failure_reads trees asked before after unchanged bytes failures.Memory same held (inr fails) = both_read trees asked before after bytes fails.tree_for held fails.reads

pub reads_no_more : (trees : Trees) (asked : ExtractWords) (before after : Objects) (unchanged : Unchanged) (code : ℕ) → (unchanged.shelf → after.shelf ≡ before.shelf) → ExtractRuns trees asked before after unchanged code
    → ReadsNoMore asked before after
reads_no_more trees asked before after unchanged code same (inl done) bytes held = both_read trees asked before after bytes done.1.tree_for held done.1.reads
reads_no_more trees asked before after unchanged code same (inr fails) bytes held = failure_reads trees asked before after unchanged bytes fails.failure same held fails.because
