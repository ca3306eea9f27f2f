-- An audit of files that the shelf tells comes to its end.
use Rattle.std.proofs.Common.{◌≡◌, ◌⊎◌, ◌∙◌, ℕ, ◌^◌, ◌<◌, Bool, true, false, List, [], ◌∷◌, ◌++◌, length, drop, inl, inr, refl, sym, ap, subst, arith}
use Rattle.std.specs.Prelude.{All, if◌then◌else◌}
use Rattle.std.specs.List.{list_all}
use Rattle.std.specs.declared.option.Option.{Option}
use Rattle.std.proofs.lemmas.List.{length-append}
use Rattle.std.proofs.lemmas.List.Elements.{All-head, All-tail}
use Rattle.esdk_fields.specs.Counts.{Stayed}
use Rattle.esdk_fields.specs.declared.refusals.FileRefusal.{FileRefusal}
use Rattle.esdk_fields.specs.declared.refusals.Outside.TheVariants as outsides
use Rattle.esdk_base.specs.Shelf.{Files, Holds}
use Rattle.esdk_base.specs.Streams.{ShelfState}
use Rattle.keyring_trait.specs.Keyring.{KeyringMeaning}
use Rattle.keyring_trait.specs.Wrapping.{WrapKeyValue}
use Rattle.job_file.specs.declared.audit.AuditMessage.{AuditMessage}
use Rattle.job_file.specs.AuditFile.{AuditFile}
use Rattle.job_file.specs.Audit.{audit_of}
use Rattle.audit_core.specs.declared.audited.Audited.{Audited}
use Rattle.audit_core.specs.declared.audited.Audited.TheVariants.{Fault, OpenedBy}
use Rattle.audit_core.specs.MessageFiles.{AreHeld, FindsEach, FindsOf, IsEndless}
use Rattle.audit_core.specs.Messages.{Message}
use Rattle.audit_core.specs.Openers.{has_opener}
use Rattle.audit_core.proofs.Held.{each_files, each_later}
use Rattle.esdk_report.specs.Report.{Reports}
use Rattle.esdk_report.specs.declared.failure.Failure.{Failure}
use Rattle.esdk_report.specs.declared.failure.Failure.TheVariants as failures
use Rattle.esdk_run.specs.Audit.{AuditEnds, AuditIs, Audits, FindsNotAll, HasNoAudit}
use Rattle.esdk_run.specs.AuditTold.{HasShortFiles, HoldsAudit}
use Rattle.esdk_run.specs.Objects.{Objects, Unchanged}
use Rattle.esdk_run.specs.Run.{AuditRuns}
use Rattle.esdk_run.specs.Told.{TreeIsLeftAnd}
use Rattle.esdk_run.specs.Trees.{TreeGoes, Trees}
use Rattle.esdk_run.proofs.Promised.{AuditsWhatIsHeld}
use Rattle.esdk_run.proofs.Auditing.{read_as_held}
use Rattle.esdk_run.proofs.Files.{file_is_held, no_read_fails, not_refused}
use Rattle.esdk_run.proofs.Statuses.{memory_status}

-- ---- both files

-- What is so of the file of an audit that the shelf tells, and of its keyring file behind it.
module _ (trees : Trees) (name : List ℕ) (old new : ShelfState) (tree : KeyringMeaning) (told : List (List WrapKeyValue)) (messages : List Message)
    (held : HoldsAudit trees old.files name tree told messages) (short : HasShortFiles held.bytes held.keyring messages) where
  keyring_held : (file : AuditFile) (between : ShelfState) → AuditIs old between name file → Holds between.files file.keyring held.keyring
  keyring_held file between audit =
      let same : held.file ≡ file = sym (file_is_held audit_of old between name held.bytes file held.file held.holds held.is audit.read) in
      subst (λ (f : Option Files). Holds f file.keyring held.keyring) (sym audit.stay) (subst (λ (a : AuditFile). Holds old.files a.keyring held.keyring) same held.holds_keyring)

  taken_both : (refusal : FileRefusal) → HasNoAudit trees name old new (failures.File refusal) → ⊥
  taken_both refusal none =
      elim none.cause [
        | inl refused ↦ not_refused audit_of old new name held.bytes held.file refusal held.holds short.few held.is refused
        | inr has ↦ not_refused trees.read has.between new has.file.keyring held.keyring (tree ∷ []) refusal (keyring_held has.file has.between has.audit) short.keyring_few held.tree_is has.cause
      ]

  read_both : Stayed old.faults new.faults → HasNoAudit trees name old new (failures.Outside outsides.ShelfFault) → ⊥
  read_both stayed none =
      elim none.cause [
        | inl unread ↦ no_read_fails old new name held.bytes held.holds stayed unread.cause
        | inr has ↦
            no_read_fails has.between new has.file.keyring held.keyring (keyring_held has.file has.between has.audit) (subst (λ (n : ℕ). Stayed n new.faults) (sym has.audit.read.file.faults) stayed)
            has.cause.cause
      ]

-- ---- each message

found_faults : (old new : ShelfState) (before after : List KeyringMeaning) (m : AuditMessage) (x : Audited) → FindsOf old new before after m x → new.faults ≡ old.faults
found_faults old new before after m (OpenedBy openers) found = found.has.reads.faults
found_faults old new before after m (Fault fault) (inl (inl has), same) = has.reads.faults
found_faults old new before after m (Fault fault) (inl (inr cut), same) = cut.1.reads.faults
found_faults old new before after m (Fault fault) (inr has, same) = has.has.reads.faults

each_faults : (old new : ShelfState) (before after : List KeyringMeaning) (ms : List AuditMessage) (xs : List Audited) → FindsEach old new before after ms xs → new.faults ≡ old.faults
each_faults old new before after [] [] each = ap (λ (s : ShelfState). s.faults) each.0
each_faults old new before after [] (x ∷ xs) each = absurd each
each_faults old new before after (m ∷ ms) [] each = absurd each
each_faults old new before after (m ∷ ms) (x ∷ xs) each =
    each_faults each.between new each.leaves after ms xs each.others ∙ found_faults old each.between before each.leaves m x each.first

-- A message's file is held, and it is short.
record IsHeld (files : Option Files) (m : AuditMessage) : Type 0 where
  pub bytes : List ℕ
  pub holds : Holds files m.from bytes
  pub short : length bytes < 2 ^ 62

one_held : (files : Option Files) (done : List AuditMessage) (m : AuditMessage) (behind : List AuditMessage) (messages : List Message) → AreHeld files (done ++ m ∷ behind) messages
    → All (λ h. length h.bytes < 2 ^ 62) messages → IsHeld files m
one_held files [] m behind [] held short = absurd held
one_held files [] m behind (h ∷ hs) held short = record { bytes = h.bytes; holds = held.0; short = All-head (λ h. length h.bytes < 2 ^ 62) h hs short }
one_held files (n ∷ ns) m behind [] held short = absurd held
one_held files (n ∷ ns) m behind (h ∷ hs) held short = one_held files ns m behind hs held.2 (All-tail (λ h. length h.bytes < 2 ^ 62) h hs short)

-- it isn't endless
not_endless : (old new : ShelfState) (name bytes : List ℕ) → Holds old.files name bytes → length bytes < 2 ^ 62 → IsEndless old new name → ⊥
not_endless old new name bytes holds short endless =
    omega (arith, short, endless.count, ap length (endless.read.front bytes holds), length-append endless.bytes (drop (length endless.bytes) bytes))

-- ---- how it ends

zero_or_seven : (all : Bool) (code : ℕ) → code ≡ (if all then 0 else 7) → (code ≡ 0) ⊎ (code ≡ 7)
zero_or_seven true code is = inl is
zero_or_seven false code is = inr is

module _ (trees : Trees) (name : List ℕ) (old new : ShelfState) (tree : KeyringMeaning) (told : List (List WrapKeyValue)) (messages : List Message)
    (held : HoldsAudit trees old.files name tree told messages) (short : HasShortFiles held.bytes held.keyring messages) where
  -- the file of the message is held still, and no read failed before
  still_held : (read between : ShelfState) (file : AuditFile) (left : KeyringMeaning) (leaves leaves_then : List KeyringMeaning) (audits : Audits trees name old read file left leaves)
      (done : List AuditMessage) (m : AuditMessage) (behind : List AuditMessage) (found : List Audited) → file.messages ≡ done ++ m ∷ behind → FindsEach read between leaves leaves_then done found
      → IsHeld between.files m × (between.faults ≡ old.faults)
  still_held read between file left leaves leaves_then audits done m behind found are each =
      let same = read_as_held trees name old read file audits.tree tree leaves told messages audits.has held in
      let now : AreHeld read.files file.messages messages =
      subst (λ (f : Option Files). AreHeld f file.messages messages) (sym audits.has.stay) (subst (λ (f : AuditFile). AreHeld old.files f.messages messages) same.file_is held.holds_messages) in
      let one = one_held read.files done m behind messages (subst (λ (ms : List AuditMessage). AreHeld read.files ms messages) are now) short.messages_short in (
        subst (λ (f : Option Files). IsHeld f m) (sym (each_files read between leaves leaves_then done found each)) one,
        each_faults read between leaves leaves_then done found each ∙ (audits.has.keyring.file.faults ∙ audits.has.audit.read.file.faults),
      )

  never_unread : Stayed old.faults new.faults → FindsNotAll trees name old new (failures.Outside outsides.ShelfFault) → ⊥
  never_unread stayed all =
      let first = all.fails in
      let still = still_held all.read first.between all.file all.left all.leaves first.leaves all.audits first.done first.message first.behind first.found first.are first.each in
      no_read_fails first.between new first.message.from still.0.bytes still.0.holds (subst (λ (n : ℕ). Stayed n new.faults) (sym still.1) stayed) first.fails.cause

  never_endless : FindsNotAll trees name old new (failures.Outside outsides.InputTooLong) → ⊥
  never_endless all =
      let first = all.fails in
      let still = still_held all.read first.between all.file all.left all.leaves first.leaves all.audits first.done first.message first.behind first.found first.are first.each in
      not_endless first.between new first.message.from still.0.bytes still.0.holds still.0.short first.fails

  -- where a leaf failed, the count of the tree says so
  leaf_failed : (So : Type 0) → FindsNotAll trees name old new (failures.Outside outsides.KeyringFault) → TreeIsLeftAnd trees tree So
  leaf_failed So all =
      let first = all.fails in
      let same = read_as_held trees name old all.read all.file all.audits.tree tree all.leaves told messages all.audits.has held in
      let later = each_later all.read first.between all.leaves first.leaves first.done first.found first.each in
      record {
        left = all.left;
        kept = all.audits.kept;
        goes = subst (λ (t : KeyringMeaning). TreeGoes t all.left) (sym same.tree_is) all.audits.goes;
        so = λ stayed. absurd (omega (arith, stayed, ap (λ (t : KeyringMeaning). t.faults) same.tree_is, all.audits.has.faults, later, first.fails.rose));
      }

failing_audit : (trees : Trees) (name : List ℕ) (before after : Objects) (unwritten : Type 0) (code : ℕ) (tree : KeyringMeaning) (told : List (List WrapKeyValue)) (messages : List Message) (failure : Failure)
    (held : HoldsAudit trees before.shelf.files name tree told messages) → HasShortFiles held.bytes held.keyring messages → Stayed before.shelf.faults after.shelf.faults → Stayed before.output.faults after.output.faults
    → AuditEnds trees name before.shelf after.shelf before.output after.output unwritten failure → Reports failure code before.report after.report
    → (code ≡ 5) ⊎ TreeIsLeftAnd trees tree ((code ≡ 0) ⊎ (code ≡ 7))
failing_audit trees name before after unwritten code tree told messages failures.NotRead held short reading writing fails said = absurd fails.0
failing_audit trees name before after unwritten code tree told messages (failures.BadNumber option) held short reading writing fails said = absurd fails.0
failing_audit trees name before after unwritten code tree told messages (failures.BadPair number) held short reading writing fails said = absurd fails.0
failing_audit trees name before after unwritten code tree told messages (failures.Fault fault) held short reading writing fails said = absurd fails.0
failing_audit trees name before after unwritten code tree told messages (failures.File refusal) held short reading writing fails said =
    absurd (taken_both trees name before.shelf after.shelf tree told messages held short refusal fails.0)
failing_audit trees name before after unwritten code tree told messages (failures.Outside outsides.SinkFault) held short reading writing fails said = absurd (omega (arith, writing, fails.front.rose))
failing_audit trees name before after unwritten code tree told messages (failures.Outside outsides.ShelfFault) held short reading writing fails said =
    elim fails.0 [
      | inl none ↦ absurd (read_both trees name before.shelf after.shelf tree told messages held short reading none)
      | inr all ↦ absurd (never_unread trees name before.shelf after.shelf tree told messages held short reading all)
    ]
failing_audit trees name before after unwritten code tree told messages (failures.Outside outsides.KeyringFault) held short reading writing fails said =
    inr (leaf_failed trees name before.shelf after.shelf tree told messages held short ((code ≡ 0) ⊎ (code ≡ 7)) fails.0)
failing_audit trees name before after unwritten code tree told messages (failures.Outside outsides.InputTooLong) held short reading writing fails said =
    absurd (never_endless trees name before.shelf after.shelf tree told messages held short fails.0)
failing_audit trees name before after unwritten code tree told messages (failures.Outside outside) held short reading writing fails said = absurd fails.0
failing_audit trees name before after unwritten code tree told messages (failures.Refusal refusal) held short reading writing fails said = absurd fails.0
failing_audit trees name before after unwritten code tree told messages failures.Memory held short reading writing fails said = inl (memory_status failures.Memory code before.report after.report refl said)

pub audits_what_is_held : (trees : Trees) (name : List ℕ) (before after : Objects) (unchanged : Unchanged) (code : ℕ) → AuditRuns trees name before after unchanged code
    → AuditsWhatIsHeld trees name before after code
audits_what_is_held trees name before after unchanged code (inl done) tree told messages held short reading writing =
    let all = done.0.all in
    let same = read_as_held trees name before.shelf all.read all.file all.audits.tree tree all.leaves told messages all.audits.has held in
    inr (record {
      left = all.left;
      kept = all.audits.kept;
      goes = subst (λ (t : KeyringMeaning). TreeGoes t all.left) (sym same.tree_is) all.audits.goes;
      so = λ _. zero_or_seven (list_all has_opener done.0.found) code done.0.writes.status;
    })
audits_what_is_held trees name before after unchanged code (inr fails) tree told messages held short reading writing =
    failing_audit trees name before after unchanged.output code tree told messages fails.failure held short reading writing fails.because fails.said
