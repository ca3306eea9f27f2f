-- What `audit` comes to.
use Rattle.std.proofs.Common.{◌≡◌, ◌⊎◌, ◌∙◌, ℕ, ◌<◌, ◌≤◌, ◌^◌, List, [], ◌∷◌, ◌++◌, length, map, true, Option, Some, None, Result, Ok, refl, sym, ap, subst, arith, inl, inr}
use Rattle.std.specs.Prelude.{IfSome}
use Rattle.std.proofs.lemmas.Bool.{cases_lt}
use Rattle.esdk_fields.specs.Counts.{Rose, Stayed, counted}
use Rattle.esdk_fields.specs.declared.refusals.FileRefusal.{FileRefusal}
use Rattle.esdk_fields.specs.declared.refusals.Outside.TheVariants as outsides
use Rattle.esdk_seen.specs.Calls.{ShelfCall}
use Rattle.esdk_base.specs.Shelf.{Files, is_missing}
use Rattle.esdk_base.specs.Streams.{ShelfState}
use Rattle.keyring_trait.specs.Keyring.{KeyringMeaning}
use Rattle.keyring_trait.specs.Wrapping.{WrapKeyValue}
use Rattle.multi_keyring.specs.Tree.{all_faults}
use Rattle.whole_input.specs.File.{most_file}
use Rattle.whole_input.specs.FileReads.{Grows, ReadsRow, reads_in_row}
use Rattle.whole_input.proofs.Agreeing.{grows_more, grows_none}
use Rattle.job_file.specs.AuditFile.{AuditFile}
use Rattle.job_file.specs.Audit.{audit_of}
use Rattle.job_file.specs.declared.audit.AuditMessage.{AuditMessage}
use Rattle.audit_core.specs.declared.audited.Audited.{Audited}
use Rattle.audit_core.specs.declared.audited.Audited.TheVariants.{OpenedBy, Fault}
use Rattle.audit_core.specs.Laws.{told_by}
use Rattle.audit_core.specs.MessageFiles.{FindsEach, FindsOf, ReadsWell}
use Rattle.audit_core.specs.Messages.{audited}
use Rattle.audit_core.proofs.Came.{finds_what_came}
use Rattle.audit_core.proofs.Held.{each_files, each_later}
use Rattle.esdk_report.specs.Report.{Reports}
use Rattle.esdk_report.specs.declared.failure.Failure.{Failure}
use Rattle.esdk_report.specs.declared.failure.Failure.TheVariants as failures
use Rattle.esdk_run.specs.Audit.{AuditEnds, AuditFails, AuditIs, Audits, FindsAll, FindsNotAll, HasNoAudit}
use Rattle.esdk_run.specs.Objects.{Unchanged}
use Rattle.esdk_run.specs.Run.{AuditRuns}
use Rattle.esdk_run.proofs.Auditing.{told_many}
use Rattle.esdk_program.specs.Effect.{RunComesTo, Effect, KeyringFailed}
use Rattle.esdk_program.specs.Program.{audit_effect, audited_all, audit_lines_effect, messages_in, with_file, with_read, with_told, with_value_read}
use Rattle.esdk_program.specs.World.{IsOf, Run, World}
use Rattle.esdk_program.proofs.Ends.{gains_none, refuses, same_none, stops, stops_unwritten}
use Rattle.esdk_program.proofs.Files.{IsPart, file_between, file_taken, gave_more, part_all, part_second}
use Rattle.esdk_program.proofs.Messages.{message_lacks, messages_came}
use Rattle.esdk_program.proofs.Trees.{IsBehind, behind_none, file_fails, second_fails}

-- ---- what the shelf is like behind messages

row_grows : (name bytes : List ℕ) (at : ℕ) (a b : List ShelfCall) → ReadsRow name at a b bytes → Grows a b
row_grows name bytes at a b row = (reads_in_row name at row.pieces, row.calls)

-- Only calls were added, and none failed.
record GoesOn (old new : ShelfState) : Type 0 where
  pub calls : Grows old.calls new.calls
  pub faults : new.faults ≡ old.faults

well_on : (old new : ShelfState) (name bytes : List ℕ) → ReadsWell old new name bytes → GoesOn old new
well_on old new name bytes well = record { calls = row_grows name bytes 0 old.calls new.calls well.read.came; faults = well.faults }

found_on : (old new : ShelfState) (before after : List KeyringMeaning) (m : AuditMessage) (x : Audited) → FindsOf old new before after m x → GoesOn old new
found_on old new before after m (OpenedBy numbers) found = well_on old new m.from found.has.bytes found.has.reads
found_on old new before after m (Fault fault) (inl (inl has), same) = well_on old new m.from has.bytes has.reads
found_on old new before after m (Fault fault) (inl (inr cut), same) = well_on old new m.from cut.1.bytes cut.1.reads
found_on old new before after m (Fault fault) (inr has, same) = well_on old new m.from has.has.bytes has.has.reads

each_on : (old new : ShelfState) (before after : List KeyringMeaning) (ms : List AuditMessage) (xs : List Audited) → FindsEach old new before after ms xs → GoesOn old new
each_on old new before after [] [] each = record {
  calls = subst (λ (s : ShelfState). Grows old.calls s.calls) (sym each.0) (grows_none old.calls);
  faults = ap (λ (s : ShelfState). s.faults) each.0;
}
each_on old new before after [] (x ∷ xs) each = absurd each
each_on old new before after (m ∷ ms) [] each = absurd each
each_on old new before after (m ∷ ms) (x ∷ xs) each =
    let first = found_on old each.between before each.leaves m x each.first in
    let others = each_on each.between new each.leaves after ms xs each.others in
    record { calls = grows_more old.calls each.between.calls new.calls first.calls others.calls; faults = others.faults ∙ first.faults }

module _ (r : Run) (name : List ℕ) (unchanged : Unchanged) (world : World) (of : IsOf r world) (same : unchanged.output → r.after.output ≡ r.before.output) where
  abbrev Done : Type 0
  Done = IfSome (audit_effect name r.trees world) (RunComesTo r world)

  -- ---- what the program does

  abbrev keys_so : List AuditMessage → List (List WrapKeyValue) → Effect
  keys_so messages keys = audited_all keys (messages_in world.files messages)

  abbrev leaves_so : List AuditMessage → List KeyringMeaning → Option Effect
  leaves_so messages leaves = with_told (told_by leaves) (keys_so messages)

  abbrev tree_so : List AuditMessage → List ℕ → KeyringMeaning → Option Effect
  tree_so messages ring tree = with_value_read (r.trees.leaves ring) (leaves_so messages)

  abbrev file_so : AuditFile → Option Effect
  file_so file = with_file (world.files file.keyring) (λ ring. with_read (r.trees.read ring) (tree_so file.messages ring))

  first_taken : (file : AuditFile) (bytes : List ℕ) → world.files name ≡ Some bytes → length bytes ≤ most_file → audit_of bytes ≡ Ok file → audit_effect name r.trees world ≡ file_so file
  unfolding audit_effect
  first_taken file bytes holds few is =
      file_taken (world.files name) bytes (λ b. with_value_read (audit_of b) file_so) holds few ∙ ap (λ (x : Result AuditFile FileRefusal). with_value_read x file_so) is

  -- ---- no audit

  behind_file : (file : AuditFile) (between : ShelfState) → AuditIs r.before.shelf between name file → IsBehind r between
  behind_file file between is = record { files = is.stay; faults = is.read.file.faults; grown = (reads_in_row name 0 (is.read.file.read.pieces ++ [] ∷ []), is.read.file.read.calls) }

  no_audit : (failure : Failure) → HasNoAudit r.trees name r.before.shelf r.after.shelf failure → Reports failure r.code r.before.report r.after.report → r.after.output ≡ r.before.output → Done
  unfolding audit_effect
  no_audit failure none said still = elim none.cause [
    | inl fails ↦ file_fails r world of r.before.shelf (behind_none r) audit_of (λ bytes x. with_value_read x file_so) name (λ bytes refusal. refl) failure fails said still
    | inr lacks ↦ second_fails r world of lacks.between (behind_file lacks.file lacks.between lacks.audit) name lacks.audit.read.bytes lacks.audit.read.file (audit_effect name r.trees world)
        r.trees.read (λ ring x. with_read x (tree_so lacks.file.messages ring)) lacks.file.keyring (λ bytes refusal. refl)
        (λ holds. first_taken lacks.file lacks.audit.read.bytes holds lacks.audit.read.file.few lacks.audit.read.is) still failure lacks.cause said
  ]

  -- ---- both files were read

  module _ (read : ShelfState) (file : AuditFile) (left : KeyringMeaning) (leaves : List KeyringMeaning) (audits : Audits r.trees name r.before.shelf read file left leaves)
      (later : Grows read.calls r.after.shelf.calls) where
    abbrev between : ShelfState
    between = audits.has.between

    behind_both : IsBehind r read
    behind_both = record {
      files = audits.has.stay;
      faults = audits.has.keyring.file.faults ∙ audits.has.audit.read.file.faults;
      grown = grows_more r.before.shelf.calls between.calls read.calls (behind_file file between audits.has.audit).grown
          (reads_in_row file.keyring 0 (audits.has.keyring.file.read.pieces ++ [] ∷ []), audits.has.keyring.file.read.calls);
    }

    file_holds : world.files name ≡ Some audits.has.audit.read.bytes
    file_holds = file_between world.files name audits.has.audit.read.bytes r.before.shelf r.after.shelf r.before.shelf.calls between.calls of.files (grows_none r.before.shelf.calls)
        (grows_more between.calls read.calls r.after.shelf.calls (reads_in_row file.keyring 0 (audits.has.keyring.file.read.pieces ++ [] ∷ []), audits.has.keyring.file.read.calls) later)
        audits.has.audit.read.file.read

    ring_holds : world.files file.keyring ≡ Some audits.has.keyring.bytes
    ring_holds = file_between world.files file.keyring audits.has.keyring.bytes r.before.shelf r.after.shelf between.calls read.calls of.files
        (behind_file file between audits.has.audit).grown later audits.has.keyring.file.read

    all_taken : audit_effect name r.trees world ≡ leaves_so file.messages leaves
    all_taken =
        first_taken file audits.has.audit.read.bytes file_holds audits.has.audit.read.file.few audits.has.audit.read.is
        ∙ file_taken (world.files file.keyring) audits.has.keyring.bytes (λ ring. with_read (r.trees.read ring) (tree_so file.messages ring)) ring_holds audits.has.keyring.file.few
        ∙ ap (λ (x : Result (List KeyringMeaning) FileRefusal). with_read x (tree_so file.messages audits.has.keyring.bytes)) audits.has.keyring.is
        ∙ ap (λ (x : Result (List KeyringMeaning) FileRefusal). with_value_read x (leaves_so file.messages)) audits.has.keyring.leaves_are

    keyring_failed : Rose audits.tree.faults left.faults → KeyringFailed r world
    keyring_failed rose = record {
      name = file.keyring;
      bytes = audits.has.keyring.bytes;
      tree = audits.tree;
      left = left;
      file = ring_holds;
      read = audits.has.keyring.is;
      kept = audits.kept;
      goes = audits.goes;
      rose = rose;
    }

    abbrev EachKeys : Type 0
    EachKeys = (keys : List (List WrapKeyValue)) → told_by leaves ≡ Some keys → RunComesTo r world (keys_so file.messages keys)

    with_leaves : (o : Option (List (List WrapKeyValue))) → told_by leaves ≡ o → EachKeys → IfSome (with_told o (keys_so file.messages)) (RunComesTo r world)
    with_leaves None told each = tt
    with_leaves (Some keys) told each = each keys told

    with_keys : EachKeys → Done
    with_keys each = subst (λ (o : Option Effect). IfSome o (RunComesTo r world)) (sym all_taken) (with_leaves (told_by leaves) refl each)

    -- ---- it was found of each message

    module _ (found : List Audited) (leaves_left : List KeyringMeaning) (each : FindsEach read r.after.shelf leaves leaves_left file.messages found) (count : ℕ) (count_is : count ≡ length leaves)
        (faults_left : left.faults ≡ all_faults leaves_left) where
      part : IsPart world.files read.calls r.after.shelf.calls
      part = part_second world.files r.before.shelf.calls read.calls r.after.shelf.calls (part_all world.files r.before.shelf r.after.shelf of.files) behind_both.grown later

      lines_are : (keys : List (List WrapKeyValue)) → told_by leaves ≡ Some keys → Stayed (all_faults leaves) (all_faults leaves_left) → keys_so file.messages keys ≡ audit_lines_effect count found
      lines_are keys told stayed =
          let came = finds_what_came read r.after.shelf leaves leaves_left file.messages found keys each told stayed in
          let held = messages_came keys world.files file.messages came.came read.calls r.after.shelf.calls part came.have in
          let many : length keys ≡ count = told_many leaves keys told ∙ sym count_is in
          ap (audited_all keys) held.1 ∙ ap (λ (n : ℕ). audit_lines_effect n (map (audited keys) held.0)) many ∙ ap (audit_lines_effect count) (sym held.2 ∙ sym came.are)

      with_lines : RunComesTo r world (audit_lines_effect count found) → Done
      with_lines so = with_keys (λ keys told. elim (cases_lt left.faults (counted audits.tree.faults 1)) [
        | inl stayed ↦ subst (RunComesTo r world) (sym (lines_are keys told (omega (arith, stayed, audits.has.faults, faults_left)))) so
        | inr rose ↦ inr (inr (inr (keyring_failed rose)))
      ])

  all_found : (count : ℕ) (found : List Audited) → FindsAll r.trees name r.before.shelf r.after.shelf count found → RunComesTo r world (audit_lines_effect count found) → Done
  all_found count found all so =
      with_lines all.read all.file all.left all.leaves all.audits (each_on all.read r.after.shelf all.leaves all.leaves_left all.file.messages found all.each).calls
      found all.leaves_left all.each count all.count_is all.faults_left so

  -- ---- it wasn't

  module _ (failure : Failure) (f : FindsNotAll r.trees name r.before.shelf r.after.shelf failure) where
    -- the messages before it
    done_on : GoesOn f.read f.fails.between
    done_on = each_on f.read f.fails.between f.leaves f.fails.leaves f.fails.done f.fails.found f.fails.each

    abbrev row_of : List ℕ → Type 0
    row_of bytes = ReadsRow f.fails.message.from 0 f.fails.between.calls r.after.shelf.calls bytes

    grown : (bytes : List ℕ) → row_of bytes → Grows f.read.calls r.after.shelf.calls
    grown bytes row = grows_more f.read.calls f.fails.between.calls r.after.shelf.calls done_on.calls (row_grows f.fails.message.from bytes 0 f.fails.between.calls r.after.shelf.calls row)

    behind : (bytes : List ℕ) → row_of bytes → IsBehind r f.fails.between
    behind bytes row =
        let both = behind_both f.read f.file f.left f.leaves f.audits (grown bytes row) in
        record {
          files = each_files f.read f.fails.between f.leaves f.fails.leaves f.fails.done f.fails.found f.fails.each ∙ both.files;
          faults = done_on.faults ∙ both.faults;
          grown = grows_more r.before.shelf.calls f.read.calls f.fails.between.calls both.grown done_on.calls;
        }

    -- a shelf fault at it
    message_fails : (bytes : List ℕ) → row_of bytes → Rose f.fails.between.faults r.after.shelf.faults ⊎ (is_missing f.fails.between.files f.fails.message.from ≡ true)
        → Reports (failures.Outside outsides.ShelfFault) r.code r.before.report r.after.report → r.after.output ≡ r.before.output → Done
    message_fails bytes row (inl rose) said still =
        stops_unwritten r world (audit_effect name r.trees world) (failures.Outside outsides.ShelfFault) (subst (λ (n : ℕ). Rose n r.after.shelf.faults) (behind bytes row).faults rose) said still
    message_fails bytes row (inr missing) said still =
        let none : world.files f.fails.message.from ≡ None = of.files.missing f.fails.message.from (sym (ap (λ (x : Option Files). is_missing x f.fails.message.from) (behind bytes row).files) ∙ missing) in
        let lacks : messages_in world.files f.file.messages ≡ None = ap (messages_in world.files) f.fails.are ∙ message_lacks world.files f.fails.done f.fails.behind f.fails.message none in
        with_keys f.read f.file f.left f.leaves f.audits (grown bytes row)
        (λ keys told. subst (RunComesTo r world) (sym (ap (audited_all keys) lacks)) (refuses r world [] (failures.Outside outsides.ShelfFault) (same_none r.before.output r.after.output still) said))

    -- a leaf failed
    leaf_fails : (bytes : List ℕ) → row_of bytes → Rose (all_faults f.fails.leaves) f.left.faults
        → Reports (failures.Outside outsides.KeyringFault) r.code r.before.report r.after.report → r.after.output ≡ r.before.output → Done
    leaf_fails bytes row rose said still =
        let more : all_faults f.leaves ≤ all_faults f.fails.leaves = each_later f.read f.fails.between f.leaves f.fails.leaves f.fails.done f.fails.found f.fails.each in
        let risen : Rose f.audits.tree.faults f.left.faults = omega (arith, rose, more, f.audits.has.faults) in
        stops_unwritten r world (audit_effect name r.trees world) (failures.Outside outsides.KeyringFault) (keyring_failed f.read f.file f.left f.leaves f.audits (grown bytes row) risen) said still

    -- no file is that long
    endless : (bytes : List ℕ) → row_of bytes → length bytes ≡ 2 ^ 62 → Done
    endless bytes row count =
        let part = part_second world.files r.before.shelf.calls f.fails.between.calls r.after.shelf.calls (part_all world.files r.before.shelf r.after.shelf of.files) (behind bytes row).grown
        (row_grows f.fails.message.from bytes 0 f.fails.between.calls r.after.shelf.calls row) in
        let gave = gave_more world.files f.fails.message.from bytes f.fails.between.calls r.after.shelf.calls part row (omega (arith, count)) in
        let few : length gave.0 < 2 ^ 62 = of.short f.fails.message.from gave.0 gave.1 in
        absurd (omega (arith, few, count, gave.2))

  -- ---- the run

  fails_does : (failure : Failure) → AuditFails r.trees name r.before.shelf r.after.shelf failure → Reports failure r.code r.before.report r.after.report → r.after.output ≡ r.before.output → Done
  fails_does (failures.File refusal) none said still = no_audit (failures.File refusal) none said still
  fails_does (failures.Outside outsides.ShelfFault) (inl none) said still = no_audit (failures.Outside outsides.ShelfFault) none said still
  fails_does (failures.Outside outsides.ShelfFault) (inr f) said still =
      message_fails (failures.Outside outsides.ShelfFault) f f.fails.fails.bytes f.fails.fails.read.came (elim f.fails.fails.cause [
        | inl rose ↦ inl rose
        | inr missing ↦ inr missing.0
      ]) said still
  fails_does (failures.Outside outsides.KeyringFault) f said still =
      leaf_fails (failures.Outside outsides.KeyringFault) f f.fails.fails.has.bytes f.fails.fails.has.reads.read.came f.fails.fails.rose said still
  fails_does (failures.Outside outsides.InputTooLong) f said still = endless (failures.Outside outsides.InputTooLong) f f.fails.fails.bytes f.fails.fails.read.came f.fails.fails.count
  fails_does failures.Memory fails said still = stops_unwritten r world (audit_effect name r.trees world) failures.Memory tt said still
  fails_does failure fails said still = absurd fails

  ends_does : (failure : Failure) → AuditEnds r.trees name r.before.shelf r.after.shelf r.before.output r.after.output unchanged.output failure → Reports failure r.code r.before.report r.after.report → Done
  ends_does (failures.Outside outsides.SinkFault) lost said =
      all_found lost.count lost.found lost.all (stops r world (audit_lines_effect lost.count lost.found) (failures.Outside outsides.SinkFault) lost.front.rose said lost.front.front)
  ends_does failure fails said = fails_does failure fails.0 said (same fails.1)

  pub audit_does : AuditRuns r.trees name r.before r.after unchanged r.code → Done
  audit_does (inl (done, still)) =
      all_found done.count done.found done.all (inl (record { code = done.writes.status; output = done.writes.gained; report = gains_none r.before.report r.after.report still }))
  audit_does (inr fails) = ends_does fails.failure fails.because fails.said
