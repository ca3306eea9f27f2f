-- What `extract` comes to.
use Rattle.std.proofs.Common.{◌≡◌, ◌∙◌, ℕ, List, [], ◌∷◌, ◌++◌, true, false, Option, Some, None, refl, sym, ap, subst, inl, inr}
use Rattle.std.specs.Prelude.{IfSome}
use Rattle.std.proofs.lemmas.Bool.{cases_lt}
use Rattle.esdk_args.specs.declared.request.ExtractWords.{ExtractWords}
use Rattle.esdk_fields.specs.Counts.{Rose, counted}
use Rattle.esdk_fields.specs.declared.faults.Fault.{Fault}
use Rattle.esdk_fields.specs.declared.refusals.Outside.TheVariants as outsides
use Rattle.esdk_base.specs.Shelf.{Files, is_missing}
use Rattle.esdk_base.specs.Sink.{AppendsFront}
use Rattle.esdk_base.specs.Streams.{ShelfState}
use Rattle.context_codec.specs.Context.{KeyValue}
use Rattle.keyring_trait.specs.Keyring.{KeyringMeaning}
use Rattle.keyring_trait.specs.Unlocking.{Unlocking}
use Rattle.keyring_trait.specs.Wrapping.{WrapKeyValue}
use Rattle.whole_input.specs.FileReads.{Grows, IsSeenAs, reads_in_row}
use Rattle.whole_input.proofs.Agreeing.{grows_none, read_second}
use Rattle.esdk_decrypt.specs.Decrypt.{AnswersTo}
use Rattle.esdk_decrypt.specs.Told.{Reader, answering_by, decrypting_by}
use Rattle.esdk_decrypt.proofs.Readers.{answers_unlocking}
use Rattle.extract_core.specs.declared.errors.ExtractError.{ExtractError}
use Rattle.extract_core.specs.declared.errors.ExtractError.TheVariants as errors
use Rattle.extract_core.specs.Extract.{ExtractEnds, ExtractWritesFront, WritesLess}
use Rattle.extract_core.specs.Extracted.{Extraction, extracted}
use Rattle.esdk_report.specs.Report.{Reports}
use Rattle.esdk_report.specs.declared.failure.Failure.{Failure}
use Rattle.esdk_report.specs.declared.failure.Failure.TheVariants as failures
use Rattle.esdk_run.specs.Extract.{ExtractFails, ExtractionFails, HasTreeFor, extract_asked, extract_reader, range_asked}
use Rattle.esdk_run.specs.ExtractTold.{extracted_by}
use Rattle.esdk_run.specs.Failures.{extraction_failure}
use Rattle.esdk_run.specs.Objects.{Unchanged}
use Rattle.esdk_run.specs.Run.{ExtractRuns}
use Rattle.esdk_run.proofs.Extraction.{Ended, reader_ended}
use Rattle.esdk_program.specs.Effect.{RunComesTo, Effect, KeyringFailed, refused}
use Rattle.esdk_program.specs.Program.{extract_effect, part_with, range_of_file, with_told}
use Rattle.esdk_program.specs.World.{IsOf, Run, World}
use Rattle.esdk_program.proofs.Ends.{gains_none, refuses, same_front, same_none, stops, stops_unwritten}
use Rattle.esdk_program.proofs.Files.{file_between, prepared_taken, read_as}
use Rattle.esdk_program.proofs.Trees.{no_context, no_tree}

part_output : (part : List ℕ) (fault : Option Fault) → part ≡ (part_with part fault).output
part_output part None = refl
part_output part (Some fault) = refl

-- ---- behind the keyring file

module _ (r : Run) (world : World) (of : IsOf r world) (asked : ExtractWords) (middle : ShelfState) (reader : Reader) (unwritten : Type 0) (same : unwritten → r.after.output ≡ r.before.output)
    (files : middle.files ≡ r.before.shelf.files) (faults : middle.faults ≡ r.before.shelf.faults) (first : Grows r.before.shelf.calls middle.calls) (second : Grows middle.calls r.after.shelf.calls) where
  abbrev extraction : List ℕ → Extraction
  extraction bytes = extracted_by reader bytes (range_asked asked)

  abbrev About : ExtractError → Type 0
  About error = ExtractEnds (decrypting_by reader) (range_asked asked) middle r.after.shelf asked.from r.before.output r.after.output unwritten error

  abbrev Less : Type 0
  Less = WritesLess (decrypting_by reader) (range_asked asked) middle r.after.shelf asked.from r.before.output r.after.output unwritten

  -- what the file holds agrees with its reads
  seen_as : (bytes : List ℕ) → world.files asked.from ≡ Some bytes → IsSeenAs middle r.after.shelf asked.from bytes
  seen_as bytes is =
      inr (read_second r.before.shelf.calls middle.calls r.after.shelf.calls asked.from bytes first second (read_as world.files asked.from bytes r.before.shelf r.after.shelf of.files is))

  extracted_is : (bytes : List ℕ) (answer : Unlocking) → AnswersTo (answering_by reader) reader.settings reader.given bytes answer
      → extracted bytes reader.settings answer (range_asked asked) ≡ extraction bytes
  extracted_is bytes answer answers = ap (λ (a : Unlocking). extracted bytes reader.settings a (range_asked asked)) (answers_unlocking reader bytes answer answers)

  rose_is : Rose middle.faults r.after.shelf.faults → Rose r.before.shelf.faults r.after.shelf.faults
  rose_is rose = subst (λ (n : ℕ). Rose n r.after.shelf.faults) faults rose

  -- ---- there is no file

  is_none : world.files asked.from ≡ None → is_missing middle.files asked.from ≡ true
  is_none none = ap (λ (f : Option Files). is_missing f asked.from) files ∙ of.files.absent asked.from none

  not_there : {A : Type 0} → world.files asked.from ≡ None → is_missing middle.files asked.from ≡ false → A
  not_there none there = absurd (let both : true ≡ false = sym (is_none none) ∙ there in cc both)

  none_ends : world.files asked.from ≡ None → (error : ExtractError) → About error → Reports (extraction_failure error) r.code r.before.report r.after.report
      → RunComesTo r world (range_of_file reader (range_asked asked) None)
  none_ends none (errors.Fault fault) ends said = not_there none ends.there
  none_ends none (errors.Outside outsides.ShelfFault) ends said = elim ends.0 [
    | inl rose ↦ stops r world (refused [] (failures.Outside outsides.ShelfFault)) (failures.Outside outsides.ShelfFault) (rose_is rose) said
        (same_front r.before.output r.after.output [] (same (ends.1.missing (is_none none))))
    | inr missing ↦ refuses r world [] (failures.Outside outsides.ShelfFault) (same_none r.before.output r.after.output (same (ends.1.missing (is_none none)))) said
  ]
  none_ends none (errors.Outside outsides.SinkFault) ends said = not_there none ends.there
  none_ends none (errors.Outside outsides.KeyringFault) ends said = absurd ends.failed
  none_ends none (errors.Outside outside) ends said = absurd ends
  none_ends none errors.Memory ends said = stops r world (refused [] (failures.Outside outsides.ShelfFault)) failures.Memory tt said
      (same_front r.before.output r.after.output [] (same (ends.1.missing (is_none none))))

  -- ---- there is one

  module _ (bytes : List ℕ) (is : world.files asked.from ≡ Some bytes) where
    abbrev e : Effect
    e = range_of_file reader (range_asked asked) (Some bytes)

    a_front : AppendsFront r.before.output.written r.after.output.written (extraction bytes).part → AppendsFront r.before.output.written r.after.output.written e.output
    a_front front = subst (λ (t : List ℕ). AppendsFront r.before.output.written r.after.output.written t) (part_output (extraction bytes).part (extraction bytes).fault) front

    front_written : ExtractWritesFront (decrypting_by reader) (range_asked asked) middle r.after.shelf r.before.output r.after.output bytes → AppendsFront r.before.output.written r.after.output.written e.output
    front_written w = a_front (subst (λ (x : Extraction). AppendsFront r.before.output.written r.after.output.written x.part) (extracted_is bytes w.answer w.answered) w.gained)

    less_written : Less → AppendsFront r.before.output.written r.after.output.written e.output
    less_written less = elim less.front [
      | inl none ↦ same_front r.before.output r.after.output e.output (same none)
      | inr front ↦ front_written (front bytes (seen_as bytes is))
    ]

    effect_is : (x : Extraction) (fault : Option Fault) → x ≡ extraction bytes → x.fault ≡ fault → e ≡ part_with x.part fault
    effect_is x fault same_x so = ap (λ (y : Extraction). part_with y.part y.fault) (sym same_x) ∙ ap (part_with x.part) so

    some_ends : (error : ExtractError) → About error → Reports (extraction_failure error) r.code r.before.report r.after.report → RunComesTo r world e
    some_ends (errors.Fault fault) ends said =
        let w = ends.writes bytes (seen_as bytes is) in
        let x : Extraction = extracted bytes reader.settings w.answer (range_asked asked) in
        subst (λ (y : Effect). RunComesTo r world y) (sym (effect_is x (Some fault) (extracted_is bytes w.answer w.answered) w.fault_is)) (refuses r world x.part (failures.Fault fault) w.gained said)
    some_ends (errors.Outside outsides.ShelfFault) ends said = elim ends.0 [
      | inl rose ↦ stops r world e (failures.Outside outsides.ShelfFault) (rose_is rose) said (less_written ends.1)
      | inr missing ↦ (let none : world.files asked.from ≡ None = of.files.missing asked.from (sym (ap (λ (f : Option Files). is_missing f asked.from) files) ∙ missing.0) in
          let both : Some bytes ≡ None = sym is ∙ none in absurd (cc both))
    ]
    some_ends (errors.Outside outsides.SinkFault) ends said = stops r world e (failures.Outside outsides.SinkFault) ends.rose said (front_written (ends.writes bytes (seen_as bytes is)))
    some_ends (errors.Outside outsides.KeyringFault) ends said = absurd ends.failed
    some_ends (errors.Outside outside) ends said = absurd ends
    some_ends errors.Memory ends said = stops r world e failures.Memory tt said (less_written ends.1)

  -- ---- both

  by_file : (o : Option (List ℕ)) → world.files asked.from ≡ o → Ended (decrypting_by reader) asked middle r.before r.after unwritten r.code → RunComesTo r world (range_of_file reader (range_asked asked) o)
  by_file None none (inl (done, (written, extracts))) = not_there none extracts.there
  by_file None none (inr (error, (ends, said))) = none_ends none error ends said
  by_file (Some bytes) is (inl (done, (written, extracts))) =
      let w = extracts.writes bytes (seen_as bytes is) in
      let x : Extraction = extracted bytes reader.settings w.answer (range_asked asked) in
      subst (λ (y : Effect). RunComesTo r world y) (sym (effect_is bytes is x None (extracted_is bytes w.answer w.answered) w.sound))
      (inl (record { code = done.status; output = w.gained; report = gains_none r.before.report r.after.report done.same }))
  by_file (Some bytes) is (inr (error, (ends, said))) = some_ends bytes is error ends said

-- ---- the run

module _ (r : Run) (asked : ExtractWords) (unchanged : Unchanged) (world : World) (of : IsOf r world) (same : unchanged.output → r.after.output ≡ r.before.output) where
  abbrev Done : Type 0
  Done = IfSome (extract_effect asked r.trees world) (RunComesTo r world)

  abbrev range_with : List KeyValue → List WrapKeyValue → Effect
  range_with given keys = range_of_file (extract_reader asked given keys) (range_asked asked) (world.files asked.from)

  abbrev ranged : List KeyValue → KeyringMeaning → Option Effect
  ranged given tree = with_told tree.keys (range_with given)

  keyring_is : (t : HasTreeFor r.trees asked r.before r.after) → Grows t.middle.calls r.after.shelf.calls → world.files asked.keyring ≡ Some t.has.file.bytes
  keyring_is t grown = file_between world.files asked.keyring t.has.file.bytes r.before.shelf r.after.shelf r.before.shelf.calls t.middle.calls of.files
      (grows_none r.before.shelf.calls) grown t.has.file.file.read

  keyring_failed : (t : HasTreeFor r.trees asked r.before r.after) → Grows t.middle.calls r.after.shelf.calls → Rose t.tree.faults t.left.faults → KeyringFailed r world
  keyring_failed t grown rose = record {
    name = asked.keyring;
    bytes = t.has.file.bytes;
    tree = t.tree;
    left = t.left;
    file = keyring_is t grown;
    read = t.has.file.is;
    kept = t.has.kept;
    goes = t.has.goes;
    rose = rose;
  }

  module _ (t : HasTreeFor r.trees asked r.before r.after) (grown : Grows t.middle.calls r.after.shelf.calls)
      (ended : Ended (extract_asked asked t.given t.tree t.left) asked t.middle r.before r.after unchanged.output r.code) where
    with_these : (o : Option (List WrapKeyValue)) → t.tree.keys ≡ o → IfSome (with_told o (range_with t.given)) (RunComesTo r world)
    with_these None told = tt
    with_these (Some keys) told = elim (cases_lt t.left.faults (counted t.tree.faults 1)) [
      | inl stayed ↦ by_file r world of asked t.middle (extract_reader asked t.given keys) unchanged.output same t.files t.has.file.file.faults
          (reads_in_row asked.keyring 0 (t.has.file.file.read.pieces ++ [] ∷ []), t.has.file.file.read.calls) grown (world.files asked.from) refl
          (reader_ended asked t.middle r.before r.after unchanged.output r.code t.given t.given t.tree t.left keys refl told stayed ended)
      | inr rose ↦ inr (inr (inr (keyring_failed t grown rose)))
    ]

    with_tree_does : Done
    unfolding extract_effect
    with_tree_does =
        subst (λ (o : Option Effect). IfSome o (RunComesTo r world))
        (sym (prepared_taken asked.pairs t.given r.trees world asked.keyring t.has.file.bytes t.tree ranged t.has.given.made (keyring_is t grown) t.has.file.file.few t.has.file.is))
        (with_these t.tree.keys refl)

  ended_so : (error : ExtractError) → ExtractionFails r.trees asked r.before r.after unchanged.output error → Reports (extraction_failure error) r.code r.before.report r.after.report → Done
  ended_so error fails said = with_tree_does fails.tree_for fails.grown (inr (error, (fails.ended, said)))

  fails_does : (failure : Failure) → ExtractFails r.trees asked r.before r.after unchanged failure → Reports failure r.code r.before.report r.after.report → Done
  unfolding extract_effect
  fails_does (failures.File refusal) fails said = no_tree r world of asked.pairs asked.keyring ranged (failures.File refusal) fails.0 said (same fails.1.same)
  fails_does (failures.Outside outsides.ShelfFault) (inl none) said =
      no_tree r world of asked.pairs asked.keyring ranged (failures.Outside outsides.ShelfFault) none.0 said (same none.1.same)
  fails_does (failures.Outside outsides.ShelfFault) (inr fails) said = ended_so (errors.Outside outsides.ShelfFault) fails said
  fails_does (failures.Outside outsides.KeyringFault) fails said =
      stops_unwritten r world (extract_effect asked r.trees world) (failures.Outside outsides.KeyringFault) (keyring_failed fails.tree_for fails.grown fails.ended.failed.1) said (same fails.ended.same)
  fails_does (failures.Outside outside) fails said = ended_so (errors.Outside outside) fails said
  fails_does (failures.Fault fault) fails said = ended_so (errors.Fault fault) fails said
  fails_does (failures.Refusal refusal) fails said = no_context r world of asked.pairs asked.keyring ranged refusal unchanged.shelf fails.0 said (same fails.1.same)
  fails_does failures.Memory (inl none) said = stops_unwritten r world (extract_effect asked r.trees world) failures.Memory tt said (same none.1.same)
  fails_does failures.Memory (inr fails) said = ended_so errors.Memory fails said
  fails_does failure fails said = absurd fails

  pub extract_does : ExtractRuns r.trees asked r.before r.after unchanged r.code → Done
  extract_does (inl (done, extracts)) = with_tree_does extracts.tree_for extracts.grown (inl (done, (extracts.written, extracts.done)))
  extract_does (inr fails) = fails_does fails.failure fails.because fails.said
