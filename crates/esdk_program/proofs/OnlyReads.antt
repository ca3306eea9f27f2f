-- A run that only reads from its shelf, by what it comes to.
use Rattle.std.proofs.Common.{◌≡◌, ◌∙◌, ℕ, ◌+◌, List, [], ◌∷◌, ◌++◌, length, true, false, Result, Ok, Err, refl, sym, ap, subst, append_assoc, append-nil, inl, inr}
use Rattle.std.specs.List.{All}
use Rattle.std.proofs.lemmas.List.Elements.{All-append, All-cons, All-nil}
use Rattle.esdk_args.specs.declared.pair_words.PairWord.{PairWord}
use Rattle.esdk_args.specs.declared.request.DecryptWords.{DecryptWords}
use Rattle.esdk_args.specs.declared.request.EncryptWords.{EncryptWords}
use Rattle.esdk_args.specs.declared.request.MigrateWords.{MigrateWords}
use Rattle.esdk_args.specs.declared.request.Request.TheVariants as requests
use Rattle.esdk_args.specs.declared.request.ResealWords.{ResealWords}
use Rattle.esdk_fields.specs.declared.faults.Fault as faults
use Rattle.esdk_fields.specs.declared.refusals.FileRefusal.{FileRefusal}
use Rattle.esdk_fields.specs.declared.refusals.Outside.TheVariants as outsides
use Rattle.esdk_seen.specs.Calls.{ShelfCall, reads}
use Rattle.esdk_base.specs.Streams.{ShelfState}
use Rattle.context_codec.specs.Context.{KeyValue}
use Rattle.header_codec.specs.Header.{HeaderValue}
use Rattle.keyring_trait.specs.Keyring.{KeyringMeaning}
use Rattle.multi_keyring.specs.Tree.{all_faults}
use Rattle.whole_input.specs.FileReads.{ReadsRow, ReadsWholeFile, reads_in_row}
use Rattle.job_file.specs.AuditFile.{AuditFile}
use Rattle.job_file.specs.Audit.{audit_of}
use Rattle.job_file.specs.declared.audit.AuditMessage.{AuditMessage}
use Rattle.audit_core.specs.declared.audited.Audited.{Audited}
use Rattle.audit_core.specs.declared.audited.Audited.TheVariants.{OpenedBy, Fault}
use Rattle.audit_core.specs.MessageFiles.{FindsEach, FindsMessageHeader, FindsNotOf, FindsOf, ReadsWell}
use Rattle.esdk_report.specs.declared.failure.Failure.{Failure}
use Rattle.esdk_report.specs.declared.failure.Failure.TheVariants as failures
use Rattle.esdk_run.specs.Audit.{AuditEnds, AuditFails, FindsAll, FindsNotAll, HasAudit, HasNoAudit}
use Rattle.esdk_run.specs.Decrypt.{DecryptFails}
use Rattle.esdk_run.specs.Encrypt.{EncryptFails}
use Rattle.esdk_run.specs.FileReading.{FileFails}
use Rattle.esdk_run.specs.Migrate.{MigrateFails, value_asked}
use Rattle.esdk_run.specs.Objects.{Objects, Unchanged, without_entropy}
use Rattle.esdk_run.specs.Promises.{Words}
use Rattle.esdk_run.specs.Reseal.{HasFirst, HasNoSecond, HasSecond, ResealFails, untouched}
use Rattle.esdk_run.specs.Run.{AuditRuns, DecryptRuns, EncryptRuns, MigrateRuns, ResealRuns, RunsAs, reads_shelf}
use Rattle.esdk_run.specs.Trees.{HasNoTree, HasTree, TreeLacksMemory, Trees}
use Rattle.esdk_program.specs.Keeps.{IsRead, OnlyReads, only_reads}

-- ---- reads in a row

row_reads : (name : List ℕ) (at : ℕ) (pieces : List (List ℕ)) → All IsRead (reads_in_row name at pieces)
unfolding reads_in_row
row_reads name at [] = All-nil IsRead
row_reads name at (piece ∷ more) =
    All-cons IsRead (reads name at piece) (reads_in_row name (at + length piece) more) tt (row_reads name (at + length piece) more)

reads_none : (calls : List ShelfCall) → OnlyReads calls calls
reads_none calls = ([], sym (append-nil calls), All-nil IsRead)

reads_more : (a b c : List ShelfCall) → OnlyReads a b → OnlyReads b c → OnlyReads a c
reads_more a b c first second = (
  first.0 ++ second.0,
  second.1 ∙ ap (λ (l : List ShelfCall). l ++ second.0) first.1 ∙ append_assoc a first.0 second.0,
  All-append IsRead first.0 second.0 first.2 second.2,
)

row_only : (name bytes : List ℕ) (at : ℕ) (a b : List ShelfCall) → ReadsRow name at a b bytes → OnlyReads a b
row_only name bytes at a b row = (reads_in_row name at row.pieces, row.calls, row_reads name at row.pieces)

whole_only : (name bytes : List ℕ) (a b : List ShelfCall) → ReadsWholeFile name a b bytes → OnlyReads a b
whole_only name bytes a b read =
    (reads_in_row name 0 (read.pieces ++ [] ∷ []), read.calls, row_reads name 0 (read.pieces ++ [] ∷ []))

still_only : (old new : ShelfState) → new ≡ old → OnlyReads old.calls new.calls
still_only old new same = subst (λ (s : ShelfState). OnlyReads old.calls s.calls) (sym same) (reads_none old.calls)

-- ---- a file

file_only : {A : Type 0} (read : List ℕ → Result A FileRefusal) (old new : ShelfState) (name : List ℕ) (failure : Failure) → FileFails read old new name failure → OnlyReads old.calls new.calls
file_only read old new name (failures.File refusal) (inl (named, long)) = row_only name long.bytes 0 old.calls new.calls long.read
file_only read old new name (failures.File refusal) (inr refuses) = whole_only name refuses.bytes old.calls new.calls refuses.file.read
file_only read old new name (failures.Outside outsides.ShelfFault) fails = row_only name fails.bytes 0 old.calls new.calls fails.read
file_only read old new name failures.Memory (inl lacks) = row_only name lacks.bytes 0 old.calls new.calls lacks.read
file_only read old new name failures.Memory (inr (bytes, file)) = whole_only name bytes old.calls new.calls file.read
file_only read old new name failure fails = absurd fails

-- ---- a keyring file, behind the words' pairs

module _ (trees : Trees) (words : List PairWord) (name : List ℕ) (old new : ShelfState) where
  has_only : (context : List KeyValue) (tree left : KeyringMeaning) → HasTree trees words name old new context tree left → OnlyReads old.calls new.calls
  has_only context tree left has = whole_only name has.file.bytes old.calls new.calls has.file.file.read

  none_only : (failure : Failure) → HasNoTree trees words name old new failure → OnlyReads old.calls new.calls
  none_only failure none = file_only trees.read old new name failure none.cause

  memory_only : (unread : Type 0) → (unread → new ≡ old) → TreeLacksMemory trees words name old new unread → OnlyReads old.calls new.calls
  memory_only unread still (inl stays) = still_only old new (still stays)
  memory_only unread still (inr none) = none_only failures.Memory none

-- ---- the files of messages

well_only : (old new : ShelfState) (name bytes : List ℕ) → ReadsWell old new name bytes → OnlyReads old.calls new.calls
well_only old new name bytes well = row_only name bytes 0 old.calls new.calls well.read.came

header_only : (old new : ShelfState) (name : List ℕ) (found : Result HeaderValue faults.Fault) → FindsMessageHeader old new name found → OnlyReads old.calls new.calls
header_only old new name (Ok h) has = well_only old new name has.bytes has.reads
header_only old new name (Err fault) (inl has) = well_only old new name has.bytes has.reads
header_only old new name (Err fault) (inr (is, cut)) = well_only old new name cut.bytes cut.reads

found_only : (old new : ShelfState) (before after : List KeyringMeaning) (m : AuditMessage) (x : Audited) → FindsOf old new before after m x → OnlyReads old.calls new.calls
found_only old new before after m (OpenedBy numbers) found = well_only old new m.from found.has.bytes found.has.reads
found_only old new before after m (Fault fault) (inl has, same) = header_only old new m.from (Err fault) has
found_only old new before after m (Fault fault) (inr has, same) = well_only old new m.from has.has.bytes has.has.reads

each_only : (old new : ShelfState) (before after : List KeyringMeaning) (ms : List AuditMessage) (xs : List Audited) → FindsEach old new before after ms xs → OnlyReads old.calls new.calls
each_only old new before after [] [] each = still_only old new each.0
each_only old new before after [] (x ∷ xs) each = absurd each
each_only old new before after (m ∷ ms) [] each = absurd each
each_only old new before after (m ∷ ms) (x ∷ xs) each =
    reads_more old.calls each.between.calls new.calls (found_only old each.between before each.leaves m x each.first) (each_only each.between new each.leaves after ms xs each.others)

unfound_only : (old new : ShelfState) (before after : ℕ) (m : AuditMessage) (failure : Failure) → FindsNotOf old new before after m failure → OnlyReads old.calls new.calls
unfound_only old new before after m (failures.Outside outsides.ShelfFault) f = row_only m.from f.bytes 0 old.calls new.calls f.read.came
unfound_only old new before after m (failures.Outside outsides.InputTooLong) f = row_only m.from f.bytes 0 old.calls new.calls f.read.came
unfound_only old new before after m (failures.Outside outsides.KeyringFault) f = well_only old new m.from f.has.bytes f.has.reads
unfound_only old new before after m failures.Memory (inl (inl lacks, same)) = row_only m.from lacks.bytes 0 old.calls new.calls lacks.read.came
unfound_only old new before after m failures.Memory (inl (inr (found, is), same)) = header_only old new m.from found is
unfound_only old new before after m failures.Memory (inr sound) = well_only old new m.from sound.has.bytes sound.has.reads
unfound_only old new before after m failure f = absurd f

module _ (trees : Trees) (before after : Objects) (unchanged : Unchanged) (code : ℕ) (still : unchanged.shelf → after.shelf ≡ before.shelf) where
  abbrev old : ShelfState
  old = before.shelf

  abbrev new : ShelfState
  new = after.shelf

  abbrev Only : Type 0
  Only = OnlyReads old.calls new.calls

  -- ---- `encrypt`

  encrypt_fails : (asked : EncryptWords) (failure : Failure) → EncryptFails trees asked before after unchanged failure → Only
  encrypt_fails asked (failures.File refusal) (none, same) = none_only trees asked.pairs asked.keyring old new (failures.File refusal) none
  encrypt_fails asked (failures.Outside outsides.ShelfFault) (none, same) = none_only trees asked.pairs asked.keyring old new (failures.Outside outsides.ShelfFault) none
  encrypt_fails asked (failures.Outside outside) f = has_only trees asked.pairs asked.keyring old new f.context f.tree f.left f.has
  encrypt_fails asked (failures.Refusal refusal) (inl (refuses, same)) = still_only old new (still refuses.shelf)
  encrypt_fails asked (failures.Refusal refusal) (inr f) = has_only trees asked.pairs asked.keyring old new f.context f.tree f.left f.has
  encrypt_fails asked failures.Memory (inl (lacks, same)) = memory_only trees asked.pairs asked.keyring old new unchanged.shelf still lacks
  encrypt_fails asked failures.Memory (inr f) = has_only trees asked.pairs asked.keyring old new f.context f.tree f.left f.has
  encrypt_fails asked failure f = absurd f

  encrypt_only : (asked : EncryptWords) → EncryptRuns trees asked before after unchanged code → Only
  encrypt_only asked (inl (done, is)) = has_only trees asked.pairs asked.keyring old new is.context is.tree is.left is.has
  encrypt_only asked (inr fails) = encrypt_fails asked fails.failure fails.because

  -- ---- `decrypt`

  decrypt_fails : (asked : DecryptWords) (failure : Failure) → DecryptFails trees asked before after (without_entropy unchanged) failure → Only
  decrypt_fails asked (failures.File refusal) (none, same) = none_only trees asked.pairs asked.keyring old new (failures.File refusal) none
  decrypt_fails asked (failures.Outside outsides.ShelfFault) (none, same) = none_only trees asked.pairs asked.keyring old new (failures.Outside outsides.ShelfFault) none
  decrypt_fails asked (failures.Outside outside) f = has_only trees asked.pairs asked.keyring old new f.given f.tree f.left f.has
  decrypt_fails asked (failures.Fault fault) f = has_only trees asked.pairs asked.keyring old new f.given f.tree f.left f.has
  decrypt_fails asked (failures.Refusal refusal) (refuses, same) = still_only old new (still refuses.shelf)
  decrypt_fails asked failures.Memory (inl (lacks, same)) = memory_only trees asked.pairs asked.keyring old new unchanged.shelf still lacks
  decrypt_fails asked failures.Memory (inr f) = has_only trees asked.pairs asked.keyring old new f.given f.tree f.left f.has
  decrypt_fails asked failure f = absurd f

  decrypt_only : (asked : DecryptWords) → DecryptRuns trees asked before after (without_entropy unchanged) code → Only
  decrypt_only asked (inl is) = has_only trees asked.pairs asked.keyring old new is.done.given is.done.tree is.done.left is.done.has
  decrypt_only asked (inr fails) = decrypt_fails asked fails.failure fails.because

  -- ---- `reseal`

  both_only : (asked : ResealWords) (given : List KeyValue) (tree left second : KeyringMeaning) (between : ShelfState) → HasFirst trees asked old given tree left between
      → HasSecond trees asked between new second → Only
  both_only asked given tree left second between first sealing =
      reads_more old.calls between.calls new.calls (has_only trees asked.pairs asked.keyring old between given tree left first.has)
      (whole_only asked.to_keyring sealing.file.bytes between.calls new.calls sealing.file.file.read)

  no_second_only : (asked : ResealWords) (failure : Failure) → HasNoSecond trees asked old new (untouched unchanged) failure → Only
  no_second_only asked failure none =
      reads_more old.calls none.between.calls new.calls (has_only trees asked.pairs asked.keyring old none.between none.given none.tree none.tree none.first.has)
      (file_only trees.plain none.between new asked.to_keyring failure none.cause)

  reseal_fails : (asked : ResealWords) (failure : Failure) → ResealFails trees asked before after unchanged failure → Only
  reseal_fails asked (failures.File refusal) (inl (none, same)) = none_only trees asked.pairs asked.keyring old new (failures.File refusal) none
  reseal_fails asked (failures.File refusal) (inr none) = no_second_only asked (failures.File refusal) none
  reseal_fails asked (failures.Outside outsides.ShelfFault) (inl (none, same)) = none_only trees asked.pairs asked.keyring old new (failures.Outside outsides.ShelfFault) none
  reseal_fails asked (failures.Outside outsides.ShelfFault) (inr none) = no_second_only asked (failures.Outside outsides.ShelfFault) none
  reseal_fails asked (failures.Outside outside) f = both_only asked f.given f.tree f.left f.second f.between f.first f.sealing
  reseal_fails asked (failures.Fault fault) f = both_only asked f.given f.tree f.left f.second f.between f.first f.sealing
  reseal_fails asked (failures.Refusal refusal) (inl (refuses, same)) = still_only old new (still refuses.shelf)
  reseal_fails asked (failures.Refusal refusal) (inr f) = both_only asked f.given f.tree f.left f.second f.between f.first f.sealing
  reseal_fails asked failures.Memory (inl (lacks, same)) = memory_only trees asked.pairs asked.keyring old new unchanged.shelf still lacks
  reseal_fails asked failures.Memory (inr (inl none)) = no_second_only asked failures.Memory none
  reseal_fails asked failures.Memory (inr (inr f)) = both_only asked f.given f.tree f.left f.second f.between f.first f.sealing
  reseal_fails asked failure f = absurd f

  reseal_only : (asked : ResealWords) → ResealRuns trees asked before after unchanged code → Only
  reseal_only asked (inl is) = both_only asked is.done.given is.done.tree is.done.left is.done.second is.done.between is.done.first is.done.sealing
  reseal_only asked (inr fails) = reseal_fails asked fails.failure fails.because

  -- ---- `migrate`

  migrate_fails : (asked : MigrateWords) (failure : Failure) → MigrateFails asked old new before.output after.output unchanged.output failure → Only
  migrate_fails asked (failures.Outside outsides.SinkFault) f = whole_only asked.keyring f.is.is.bytes old.calls new.calls f.is.is.file.read
  migrate_fails asked failure f = file_only (value_asked asked) old new asked.keyring failure f.0

  migrate_only : (asked : MigrateWords) → MigrateRuns asked before after unchanged code → Only
  migrate_only asked (inl (done, is)) = whole_only asked.keyring is.is.is.bytes old.calls new.calls is.is.is.file.read
  migrate_only asked (inr fails) = migrate_fails asked fails.failure fails.because

  -- ---- `audit`

  audit_has_only : (name : List ℕ) (read : ShelfState) (file : AuditFile) (tree : KeyringMeaning) (leaves : List KeyringMeaning) → HasAudit trees name old read file tree leaves
      → OnlyReads old.calls read.calls
  audit_has_only name read file tree leaves has =
      reads_more old.calls has.between.calls read.calls (whole_only name has.audit.read.bytes old.calls has.between.calls has.audit.read.file.read)
      (whole_only file.keyring has.keyring.bytes has.between.calls read.calls has.keyring.file.read)

  no_audit_only : (name : List ℕ) (failure : Failure) → HasNoAudit trees name old new failure → Only
  no_audit_only name failure none = elim none.cause [
    | inl fails ↦ file_only audit_of old new name failure fails
    | inr lacks ↦ reads_more old.calls lacks.between.calls new.calls (whole_only name lacks.audit.read.bytes old.calls lacks.between.calls lacks.audit.read.file.read)
        (file_only trees.read lacks.between new lacks.file.keyring failure lacks.cause)
  ]

  all_only : (name : List ℕ) (count : ℕ) (found : List Audited) → FindsAll trees name old new count found → Only
  all_only name count found all =
      reads_more old.calls all.read.calls new.calls (audit_has_only name all.read all.file all.audits.tree all.leaves all.audits.has)
      (each_only all.read new all.leaves all.leaves_left all.file.messages found all.each)

  not_all_only : (name : List ℕ) (failure : Failure) → FindsNotAll trees name old new failure → Only
  not_all_only name failure f =
      reads_more old.calls f.read.calls new.calls (audit_has_only name f.read f.file f.audits.tree f.leaves f.audits.has)
      (reads_more f.read.calls f.fails.between.calls new.calls (each_only f.read f.fails.between f.leaves f.fails.leaves f.fails.done f.fails.found f.fails.each)
      (unfound_only f.fails.between new (all_faults f.fails.leaves) f.left.faults f.fails.message failure f.fails.fails))

  audit_fails : (name : List ℕ) (failure : Failure) → AuditFails trees name old new failure → Only
  audit_fails name (failures.File refusal) none = no_audit_only name (failures.File refusal) none
  audit_fails name (failures.Outside outsides.ShelfFault) (inl none) = no_audit_only name (failures.Outside outsides.ShelfFault) none
  audit_fails name (failures.Outside outsides.ShelfFault) (inr f) = not_all_only name (failures.Outside outsides.ShelfFault) f
  audit_fails name (failures.Outside outsides.KeyringFault) f = not_all_only name (failures.Outside outsides.KeyringFault) f
  audit_fails name (failures.Outside outsides.InputTooLong) f = not_all_only name (failures.Outside outsides.InputTooLong) f
  audit_fails name failures.Memory (inl none) = no_audit_only name failures.Memory none
  audit_fails name failures.Memory (inr (inl f)) = not_all_only name failures.Memory f
  audit_fails name failures.Memory (inr (inr (count, found, all))) = all_only name count found all
  audit_fails name failure f = absurd f

  audit_ends : (name : List ℕ) (failure : Failure) → AuditEnds trees name old new before.output after.output unchanged.output failure → Only
  audit_ends name (failures.Outside outsides.SinkFault) lost = all_only name lost.count lost.found lost.all
  audit_ends name failure f = audit_fails name failure f.0

  audit_only : (name : List ℕ) → AuditRuns trees name before after unchanged code → Only
  audit_only name (inl (done, same)) = all_only name done.count done.found done.all
  audit_only name (inr fails) = audit_ends name fails.failure fails.because

  -- ---- all commands that only read

  pub reads_alone : (words : Words) → (reads_shelf words ≡ false → unchanged.shelf) → RunsAs trees words before after unchanged code → only_reads words ≡ true → Only
  reads_alone (Ok (requests.List asked)) quiet runs is = still_only old new (still (quiet refl))
  reads_alone (Ok (requests.Encrypt asked)) quiet runs is = encrypt_only asked runs
  reads_alone (Ok (requests.Decrypt asked)) quiet runs is = decrypt_only asked runs
  reads_alone (Ok (requests.Reseal asked)) quiet runs is = reseal_only asked runs
  reads_alone (Ok (requests.Audit name)) quiet runs is = audit_only name runs
  reads_alone (Ok (requests.Migrate asked)) quiet runs is = migrate_only asked runs.1
  reads_alone (Ok (requests.Gen seed size)) quiet runs is = still_only old new (still (quiet refl))
  reads_alone (Ok request) quiet runs is = absurd (cc is)
  reads_alone (Err fault) quiet runs is = still_only old new (still (quiet refl))
