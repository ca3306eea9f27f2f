-- What `decrypt` comes to.
use Rattle.std.proofs.Common.{◌≡◌, ◌∙◌, ℕ, ◌^◌, ◌≤◌, Bool, true, false, List, length, Option, Some, None, refl, sym, ap, subst, inl, inr}
use Rattle.std.specs.Prelude.{IfSome, ⊤}
use Rattle.std.proofs.lemmas.Bool.{cases_lt}
use Rattle.esdk_args.specs.declared.request.DecryptWords.{DecryptWords}
use Rattle.esdk_fields.specs.Counts.{Rose, counted}
use Rattle.esdk_fields.specs.declared.faults.Fault.{Fault}
use Rattle.esdk_fields.specs.declared.faults.Fault.TheVariants.{BadArmour, Truncated}
use Rattle.esdk_fields.specs.declared.refusals.Outside.TheVariants as outsides
use Rattle.esdk_fields.specs.Place.{start}
use Rattle.esdk_fields.specs.Reading.{Reading, Read, Refused, Wanting}
use Rattle.esdk_base.specs.Streams.{SinkState, SourceState}
use Rattle.header_codec.specs.Table.{HeaderFields, header}
use Rattle.context_codec.specs.Context.{KeyValue}
use Rattle.keyring_trait.specs.Keyring.{KeyringMeaning}
use Rattle.keyring_trait.specs.Wrapping.{WrapKeyValue}
use Rattle.body_format.specs.declared.verdicts.Verdict.{Verdict}
use Rattle.body_format.specs.declared.verdicts.Verdict.TheVariants as verdicts
use Rattle.message_format.specs.Judgement.{content}
use Rattle.armour_core.specs.Outlook.{text_outlook}
use Rattle.armour_core.specs.Unarmoured.{unarmoured}
use Rattle.armour_core.specs.declared.text_end.TextEnd.{TextEnd}
use Rattle.armour_core.specs.declared.text_end.TextEnd.TheVariants as ends
use Rattle.whole_input.specs.Taken.{EndSeen}
use Rattle.whole_input.proofs.Fronts.{front_beyond}
use Rattle.esdk_decrypt.specs.declared.errors.DecryptError.TheVariants as errors
use Rattle.esdk_decrypt.specs.Decrypt.{FailsReading, fault_at_end, fault_of}
use Rattle.esdk_decrypt.specs.Told.{Reader, judged_by}
use Rattle.esdk_report.specs.Report.{Reports}
use Rattle.esdk_report.specs.declared.failure.Failure.{Failure}
use Rattle.esdk_report.specs.declared.failure.Failure.TheVariants as failures
use Rattle.esdk_run.specs.Decrypt.{DecryptFails, decrypt_asked, decrypt_settings, reader_of}
use Rattle.esdk_run.specs.Objects.{Unchanged, with_input}
use Rattle.esdk_run.specs.Read.{EndsAsRead, DecryptReadsFault, ReadsNoFault, DecryptReadsWhole, SaysWhatIsReadAs}
use Rattle.esdk_run.specs.Run.{DecryptRuns}
use Rattle.esdk_run.proofs.Promised.{SaysWhatItReads}
use Rattle.esdk_run.specs.Trees.{HasTree}
use Rattle.esdk_run.specs.Unarmoured.{AllRead, EndsText, ReadsText, TextEnds, outlook_of}
use Rattle.esdk_run.specs.UnarmouredDecrypt.{DecryptEndsAs}
use Rattle.esdk_program.specs.Effect.{RunComesTo, Effect, KeyringFailed}
use Rattle.esdk_program.specs.Program.{decrypt_effect, failure_at, judged_effect, with_told}
use Rattle.esdk_program.specs.World.{IsOf, Run, World}
use Rattle.esdk_program.proofs.Came.{bad_same, begins_input, end_same, is_all, is_few, one_text, read_all, read_begins, read_is}
use Rattle.esdk_program.proofs.Ends.{stops_unwritten}
use Rattle.esdk_program.proofs.Files.{prepared_taken, whole_file}
use Rattle.esdk_program.proofs.Opening.{bad_named, late_named, opens_early, opens_faulty, opens_front, opens_some, opens_whole}
use Rattle.esdk_program.proofs.Trees.{no_context, no_tree}

-- a fault that only the end of the bytes gives is M10
late_is : (v : Verdict) (fault : Fault) → (Truncated ≡ fault → ⊥) → fault_at_end v ≡ Some fault → fault_of v ≡ Some fault
late_is verdicts.Going fault other e = absurd (other (cc e))
late_is verdicts.Whole fault other e = absurd (cc e)
late_is (verdicts.Faulty same) fault other e = e

early_is : (v : Verdict) (fault : Fault) → fault_of v ≡ Some fault → fault_at_end v ≡ Some fault
early_is verdicts.Going fault e = absurd (cc e)
early_is verdicts.Whole fault e = absurd (cc e)
early_is (verdicts.Faulty same) fault e = e

module _ (r : Run) (world : World) (of : IsOf r world) (reader : Reader) where
  -- ---- an input as it is

  plain_fault : (fault : Fault) → DecryptReadsFault reader r.before r.after fault → Reports (failures.Fault fault) r.code r.before.report r.after.report
      → RunComesTo r world (judged_effect reader (outlook_of false world.input))
  plain_fault fault reads said =
      let begins = begins_input r.before.input r.after.input world.input reads.bytes of.input reads.gains.came in
      elim reads.cause [
        | inl early ↦ opens_early r world reader (outlook_of false world.input) reads.bytes begins.rest fault begins.all early reads.gains.gained said
        | inr late ↦ opens_faulty r world reader (outlook_of false world.input) (judged_by reader reads.bytes) fault
            (ap (judged_by reader) (is_all r.after.input world.input reads.bytes begins late.0.seen)) (late_named (judged_by reader reads.bytes).verdict fault late.1) reads.gains.gained said
      ]

  plain_ends : (failure : Failure) → EndsAsRead reader r.before r.after failure → Reports failure r.code r.before.report r.after.report
      → RunComesTo r world (judged_effect reader (outlook_of false world.input))
  plain_ends (failures.Fault fault) reads said = plain_fault fault reads said
  plain_ends (failures.Outside outsides.SourceFault) reads said =
      let begins = begins_input r.before.input r.after.input world.input reads.bytes of.input reads.gains.came in
      opens_some r world reader (outlook_of false world.input) reads.bytes begins.rest (failures.Outside outsides.SourceFault) begins.all reads.because said reads.gains.gained
  plain_ends (failures.Outside outsides.InputTooLong) reads said =
      let begins = begins_input r.before.input r.after.input world.input reads.bytes of.input reads.gains.came in
      absurd (is_few r.after.input world.input reads.bytes begins of.few reads.because.count)
  plain_ends (failures.Outside outsides.SinkFault) reads said =
      let begins = begins_input r.before.input r.after.input world.input reads.0.bytes of.input reads.0.came in
      opens_front r world reader (outlook_of false world.input) reads.0.bytes begins.rest (failures.Outside outsides.SinkFault) begins.all reads.1 said
      (front_beyond r.before.output r.after.output (content (judged_by reader reads.0.last.before)) (content (judged_by reader reads.0.bytes)) reads.0.last.was.written)
  plain_ends failures.Memory reads said =
      stops_unwritten r world (Some (judged_effect reader (outlook_of false world.input))) failures.Memory tt said reads.unwritten
  plain_ends failure reads said = absurd reads

  plain_whole : DecryptReadsWhole reader r.before r.after r.code → RunComesTo r world (judged_effect reader (outlook_of false world.input))
  plain_whole reads =
      let begins = begins_input r.before.input r.after.input world.input reads.bytes of.input reads.gains.came in
      opens_whole r world reader (outlook_of false world.input) reads.bytes reads.context (is_all r.after.input world.input reads.bytes begins reads.end.seen) refl
      reads.whole reads.unlocked reads.gains.gained reads.told

  -- ---- an armour text

  text_whole : EndsText r.before.input r.after.input ends.Whole
      → (x : ReadsText AllRead r.before.input r.after.input (λ seen read. DecryptReadsWhole reader (with_input r.before seen) (with_input r.after read) r.code))
      → RunComesTo r world (judged_effect reader (outlook_of true world.input))
  text_whole end x =
      opens_whole r world reader (outlook_of true world.input) x.so.bytes x.so.context (read_all r.before.input r.after.input world.input of.input of.few _ x x.so.bytes x.so.gains.came x.reach (end.seen refl))
      (end_same r.after.input end.text world.input ends.Whole (begins_input r.before.input r.after.input world.input end.text of.input end.came) end.ends)
      x.so.whole x.so.unlocked x.so.gains.gained x.so.told

  -- M27
  text_bad : (number : ℕ) → EndsText r.before.input r.after.input (ends.Bad number)
      → (x : ReadsText AllRead r.before.input r.after.input (λ seen read. ReadsNoFault reader (with_input r.before seen) (with_input r.after read) (EndSeen seen read)))
      → Reports (failures.Fault (BadArmour number)) r.code r.before.report r.after.report → RunComesTo r world (judged_effect reader (outlook_of true world.input))
  text_bad number end x said =
      let begins = begins_input r.before.input r.after.input world.input end.text of.input end.came in
      let same : end.text ≡ x.text = one_text r.before.input r.after.input end.text x.text end.came x.came in
      let bytes : (text_outlook world.input).bytes ≡ x.so.bytes =
      bad_same r.after.input end.text world.input number begins of.few (subst (λ (t : List ℕ). length t ≤ 2 ^ 62) (sym same) x.few) end.ends
      ∙ ap (λ (t : List ℕ). (unarmoured t).bytes) same ∙ x.reach ∙ read_is r.before.input r.after.input world.input of.input of.few _ x x.so.bytes x.so.gains.came in
      opens_faulty r world reader (outlook_of true world.input) (judged_by reader x.so.bytes) (BadArmour number) (ap (judged_by reader) bytes)
      (ap (λ (e : TextEnd). failure_at (judged_by reader x.so.bytes).verdict e) (end_same r.after.input end.text world.input (ends.Bad number) begins end.ends)
      ∙ bad_named (judged_by reader x.so.bytes).verdict number x.so.sound) x.so.gains.gained said

  -- M10
  text_cut : EndsText r.before.input r.after.input ends.Whole
      → (x : ReadsText AllRead r.before.input r.after.input (λ seen read. DecryptReadsFault reader (with_input r.before seen) (with_input r.after read) Truncated))
      → Reports (failures.Fault Truncated) r.code r.before.report r.after.report → RunComesTo r world (judged_effect reader (outlook_of true world.input))
  text_cut end x said =
      let bytes : (text_outlook world.input).bytes ≡ x.so.bytes = read_all r.before.input r.after.input world.input of.input of.few _ x x.so.bytes x.so.gains.came x.reach (end.seen refl) in
      let cut : fault_at_end (judged_by reader x.so.bytes).verdict ≡ Some Truncated =
      elim x.so.cause [ inl early ↦ early_is (judged_by reader x.so.bytes).verdict Truncated early | inr late ↦ late.1 ] in
      opens_faulty r world reader (outlook_of true world.input) (judged_by reader x.so.bytes) Truncated (ap (judged_by reader) bytes)
      (ap (λ (e : TextEnd). failure_at (judged_by reader x.so.bytes).verdict e)
      (end_same r.after.input end.text world.input ends.Whole (begins_input r.before.input r.after.input world.input end.text of.input end.came) end.ends)
      ∙ late_named (judged_by reader x.so.bytes).verdict Truncated cut)
      x.so.gains.gained said

  -- a fault of the bytes
  text_fault : {Reach : List ℕ → List ℕ → Type 0} (fault : Fault) → (Truncated ≡ fault → ⊥)
      → (x : ReadsText Reach r.before.input r.after.input (λ seen read. DecryptReadsFault reader (with_input r.before seen) (with_input r.after read) fault))
      → Reports (failures.Fault fault) r.code r.before.report r.after.report → RunComesTo r world (judged_effect reader (outlook_of true world.input))
  text_fault fault other x said =
      let begins = read_begins r.before.input r.after.input world.input of.input of.few _ x x.so.bytes x.so.gains.came in
      let early : fault_of (judged_by reader x.so.bytes).verdict ≡ Some fault =
      elim x.so.cause [ inl is ↦ is | inr late ↦ late_is (judged_by reader x.so.bytes).verdict fault other late.1 ] in
      opens_early r world reader (outlook_of true world.input) x.so.bytes begins.0 fault begins.1 early x.so.gains.gained said

  abbrev EndsAsText : Failure → Type 0
  EndsAsText failure = TextEnds failure r.before.input r.after.input
      (λ seen read. EndsAsRead reader (with_input r.before seen) (with_input r.after read) failure)
      (λ seen read. ReadsNoFault reader (with_input r.before seen) (with_input r.after read) (EndSeen seen read))
      (λ seen read. ReadsNoFault reader (with_input r.before seen) (with_input r.after read) (λ bytes. ⊤))

  text_ends : (failure : Failure) → EndsAsText failure → Reports failure r.code r.before.report r.after.report → RunComesTo r world (judged_effect reader (outlook_of true world.input))
  text_ends (failures.Fault (BadArmour number)) (end, x) said = text_bad number end x said
  text_ends (failures.Fault Truncated) (end, x) said = text_cut end x said
  text_ends (failures.Fault fault) x said = text_fault fault (λ same. cc same) x said
  text_ends (failures.Outside outsides.SourceFault) (rose, x) said =
      let begins = read_begins r.before.input r.after.input world.input of.input of.few _ x x.so.bytes x.so.gains.came in
      opens_some r world reader (outlook_of true world.input) x.so.bytes begins.0 (failures.Outside outsides.SourceFault) begins.1 rose said x.so.gains.gained
  text_ends (failures.Outside outsides.InputTooLong) (long, x) said =
      absurd (is_few r.after.input world.input long.text (begins_input r.before.input r.after.input world.input long.text of.input long.came) of.few long.most.count)
  text_ends (failures.Outside outsides.SinkFault) x said =
      let begins = read_begins r.before.input r.after.input world.input of.input of.few _ x x.so.0.bytes x.so.0.came in
      opens_front r world reader (outlook_of true world.input) x.so.0.bytes begins.0 (failures.Outside outsides.SinkFault) begins.1 x.so.1 said
      (front_beyond r.before.output r.after.output (content (judged_by reader x.so.0.last.before)) (content (judged_by reader x.so.0.bytes)) x.so.0.last.was.written)
  text_ends failures.Memory x said =
      stops_unwritten r world (Some (judged_effect reader (outlook_of true world.input))) failures.Memory tt said x.so.unwritten
  text_ends failure x said = absurd x.so

  -- ---- both

  pub read_does : (armour : Bool) → SaysWhatIsReadAs armour reader r.before r.after r.code → RunComesTo r world (judged_effect reader (outlook_of armour world.input))
  read_does false (inl whole) = plain_whole whole
  read_does false (inr fails) = plain_ends fails.failure fails.because fails.said
  read_does true (inl (end, x)) = text_whole end x
  read_does true (inr fails) = text_ends fails.failure fails.because fails.said

-- ---- a keyring that was asked failed

failing : (asked : DecryptWords) (given : List KeyValue) (tree left : KeyringMeaning) (bytes : List ℕ) (h : Reading HeaderFields)
    → FailsReading (decrypt_asked asked given tree left).manager given bytes h → Rose tree.faults left.faults
failing asked given tree left bytes (Read parts body) fails = fails.1
failing asked given tree left bytes (Refused fault at) fails = absurd fails
failing asked given tree left bytes Wanting fails = absurd fails

keyring_ends : (armour : Bool) (asked : DecryptWords) (given : List KeyValue) (tree left : KeyringMeaning) (input taken : SourceState) (output put : SinkState) (unwritten : Type 0)
    → DecryptEndsAs armour (decrypt_asked asked given tree left) input taken output put unwritten (errors.Outside outsides.KeyringFault) → Rose tree.faults left.faults × unwritten
keyring_ends false asked given tree left input taken output put unwritten ends =
    (failing asked given tree left ends.0.bytes (header (decrypt_settings asked) (start ends.0.bytes)) ends.0.failed, ends.1)
keyring_ends true asked given tree left input taken output put unwritten x =
    (failing asked given tree left x.so.0.bytes (header (decrypt_settings asked) (start x.so.0.bytes)) x.so.0.failed, x.so.1)

-- ---- the run

module _ (r : Run) (asked : DecryptWords) (unchanged : Unchanged) (world : World) (of : IsOf r world) (same : unchanged.output → r.after.output ≡ r.before.output)
    (reads : SaysWhatItReads r.trees asked r.before r.after r.code) where
  abbrev Done : Type 0
  Done = IfSome (decrypt_effect asked r.trees world) (RunComesTo r world)

  abbrev opened : List KeyValue → KeyringMeaning → Option Effect
  opened given tree = with_told tree.keys (λ keys. judged_effect (reader_of asked given keys) (outlook_of asked.armour world.input))

  keyring_failed : (given : List KeyValue) (tree left : KeyringMeaning) → HasTree r.trees asked.pairs asked.keyring r.before.shelf r.after.shelf given tree left
      → Rose tree.faults left.faults → KeyringFailed r world
  keyring_failed given tree left has rose = record {
    name = asked.keyring;
    bytes = has.file.bytes;
    tree = tree;
    left = left;
    file = whole_file world.files asked.keyring has.file.bytes r.before.shelf r.after.shelf of.files has.file.file.read;
    read = has.file.is;
    kept = has.kept;
    goes = has.goes;
    rose = rose;
  }

  -- the tree tells these keys
  with_these : (given : List KeyValue) (tree left : KeyringMeaning) → HasTree r.trees asked.pairs asked.keyring r.before.shelf r.after.shelf given tree left
      → (o : Option (List WrapKeyValue)) → tree.keys ≡ o → IfSome (with_told o (λ keys. judged_effect (reader_of asked given keys) (outlook_of asked.armour world.input))) (RunComesTo r world)
  with_these given tree left has None told = tt
  with_these given tree left has (Some keys) told =
      let all = reads given keys (record { left = left; pairs = has.given.made; kept = has.kept; told = has.goes.keys ∙ told }) in
      elim (cases_lt all.2.left.faults (counted all.0.faults 1)) [
        | inl stayed ↦ read_does r world of (reader_of asked given keys) asked.armour (all.2.so stayed)
        | inr rose ↦ inr (inr (inr (record {
          name = asked.keyring;
          bytes = all.1.bytes;
          tree = all.0;
          left = all.2.left;
          file = whole_file world.files asked.keyring all.1.bytes r.before.shelf r.after.shelf of.files all.1.file.read;
          read = all.1.is;
          kept = all.2.kept;
          goes = all.2.goes;
          rose = rose;
        })))
      ]

  with_tree_does : (given : List KeyValue) (tree left : KeyringMeaning) → HasTree r.trees asked.pairs asked.keyring r.before.shelf r.after.shelf given tree left → Done
  unfolding decrypt_effect
  with_tree_does given tree left has =
      subst (λ (o : Option Effect). IfSome o (RunComesTo r world))
      (sym (prepared_taken asked.pairs given r.trees world asked.keyring has.file.bytes tree opened has.given.made
      (whole_file world.files asked.keyring has.file.bytes r.before.shelf r.after.shelf of.files has.file.file.read) has.file.file.few has.file.is))
      (with_these given tree left has tree.keys refl)

  fails_does : (failure : Failure) → DecryptFails r.trees asked r.before r.after unchanged failure → Reports failure r.code r.before.report r.after.report → Done
  unfolding decrypt_effect
  fails_does (failures.File refusal) fails said = no_tree r world of asked.pairs asked.keyring opened (failures.File refusal) fails.0 said (same fails.1.same.1)
  fails_does (failures.Outside outsides.ShelfFault) fails said =
      no_tree r world of asked.pairs asked.keyring opened (failures.Outside outsides.ShelfFault) fails.0 said (same fails.1.same.1)
  fails_does (failures.Outside outsides.KeyringFault) fails said =
      let ends = keyring_ends asked.armour asked fails.given fails.tree fails.left r.before.input r.after.input r.before.output r.after.output unchanged.output fails.ended in
      stops_unwritten r world (decrypt_effect asked r.trees world) (failures.Outside outsides.KeyringFault) (keyring_failed fails.given fails.tree fails.left fails.has ends.0) said (same ends.1)
  fails_does (failures.Outside outside) fails said = with_tree_does fails.given fails.tree fails.left fails.has
  fails_does (failures.Fault fault) fails said = with_tree_does fails.given fails.tree fails.left fails.has
  fails_does (failures.Refusal refusal) fails said = no_context r world of asked.pairs asked.keyring opened refusal unchanged.shelf fails.0 said (same fails.1.same.1)
  fails_does failures.Memory (inl none) said = stops_unwritten r world (decrypt_effect asked r.trees world) failures.Memory tt said (same none.1.same.1)
  fails_does failures.Memory (inr fails) said = with_tree_does fails.given fails.tree fails.left fails.has
  fails_does failure fails said = absurd fails

  pub decrypt_does : DecryptRuns r.trees asked r.before r.after unchanged r.code → Done
  decrypt_does (inl done) = with_tree_does done.done.given done.done.tree done.done.left done.done.has
  decrypt_does (inr fails) = fails_does fails.failure fails.because fails.said
