-- What the command `audit` comes to.
use Rattle.std.specs.Prelude.{◌≡◌, ◌⊎◌, ℕ, List, length, Some, None, if◌then◌else◌}
use Rattle.std.specs.List.{list_all}
use Rattle.std.specs.Io.KnownBytes.{Appends}
use Rattle.esdk_base.specs.Receiver.{SinkFails}
use Rattle.esdk_base.specs.Streams.{ShelfState, SinkState}
use Rattle.esdk_fields.specs.declared.refusals.Outside.TheVariants as outsides
use Rattle.keyring_trait.specs.Keyring.{KeyringMeaning}
use Rattle.multi_keyring.specs.Tree.{all_faults, all_uses}
use Rattle.job_file.specs.AuditFile.{AuditFile}
use Rattle.job_file.specs.Audit.{audit_of}
use Rattle.audit_core.specs.declared.audited.Audited.{Audited}
use Rattle.audit_core.specs.Lines.{audit_lines}
use Rattle.audit_core.specs.MessageFiles.{FindsEach, FindsNotEach}
use Rattle.audit_core.specs.Openers.{has_opener}
use Rattle.esdk_report.specs.declared.failure.Failure.{Failure}
use Rattle.esdk_report.specs.declared.failure.Failure.TheVariants as failures
use Rattle.esdk_run.specs.FileReading.{FileFails, FileIs}
use Rattle.esdk_run.specs.Trees.{TreeGoes, TreeHas, Trees}

-- ---- what is read

-- The file of the audit was read without a failure, and means this. The files of the shelf stayed.
pub record AuditIs (old new : ShelfState) (name : List ℕ) (file : AuditFile) : Type 0 where
  pub read : FileIs audit_of old new name file
  pub stay : new.files ≡ old.files

-- It means this, and then the keyring file that it names was read as this tree, whose leaves mean
-- this.
pub record HasAudit (trees : Trees) (name : List ℕ) (old new : ShelfState) (file : AuditFile)
    (tree : KeyringMeaning) (leaves : List KeyringMeaning) : Type 0 where
  pub between : ShelfState
  pub audit : AuditIs old between name file
  pub keyring : TreeHas trees between new file.keyring tree leaves
  pub faults : tree.faults ≡ all_faults leaves
  pub stay : new.files ≡ old.files

-- It means this, and the keyring file that it names gives no tree, for this reason.
pub record AuditHasNoTree (trees : Trees) (name : List ℕ) (old new : ShelfState)
    (failure : Failure) : Type 0 where
  pub file : AuditFile
  pub between : ShelfState
  pub audit : AuditIs old between name file
  pub cause : FileFails trees.read between new file.keyring failure

-- Why there is nothing to audit, and so no tree is given back: the file gives no messages, or the
-- keyring file that it names gives no tree.
pub record HasNoAudit (trees : Trees) (name : List ℕ) (old new : ShelfState)
    (failure : Failure) : Type 0 where
  pub cause : FileFails audit_of old new name failure ⊎ AuditHasNoTree trees name old new failure
  pub none : trees.kept ≡ None

-- ---- what is found

-- The file of the audit was read, and what is left of the tree is given back.
pub record Audits (trees : Trees) (name : List ℕ) (old read : ShelfState) (file : AuditFile)
    (left : KeyringMeaning) (leaves : List KeyringMeaning) : Type 0 where
  pub tree : KeyringMeaning
  pub has : HasAudit trees name old read file tree leaves
  pub kept : trees.kept ≡ Some left
  pub goes : TreeGoes tree left

-- This was found of each message, with so many leaves. `read` is the shelf once both files were
-- read. What is left of the tree shows the uses of keys that its leaves show.
pub record FindsAll (trees : Trees) (name : List ℕ) (old new : ShelfState) (count : ℕ)
    (found : List Audited) : Type 0 where
  pub file : AuditFile
  pub read : ShelfState
  pub left : KeyringMeaning
  pub leaves : List KeyringMeaning
  pub leaves_left : List KeyringMeaning
  pub audits : Audits trees name old read file left leaves
  pub each : FindsEach read new leaves leaves_left file.messages found
  pub count_is : count ≡ length leaves
  pub faults_left : left.faults ≡ all_faults leaves_left
  pub uses_left : left.uses ≡ all_uses leaves_left

-- It wasn't found of each message, for this reason.
pub record FindsNotAll (trees : Trees) (name : List ℕ) (old new : ShelfState)
    (failure : Failure) : Type 0 where
  pub file : AuditFile
  pub read : ShelfState
  pub left : KeyringMeaning
  pub leaves : List KeyringMeaning
  pub audits : Audits trees name old read file left leaves
  pub fails : FindsNotEach read new leaves left.faults file.messages failure

-- Memory ran out before there was anything to audit, with nothing read but the one file or both; or
-- at a message; or once it was found of each.
abbrev pub AuditLacksMemory : Trees → (name : List ℕ) → ShelfState → ShelfState → Type 0
AuditLacksMemory trees name old new =
    HasNoAudit trees name old new failures.Memory
    ⊎ FindsNotAll trees name old new failures.Memory
    ⊎ ((count : ℕ) × (found : List Audited) × FindsAll trees name old new count found)

-- ---- how it ends

-- 0 where each message has an opener, and else 7
abbrev pub audit_status : List Audited → ℕ
audit_status found = if list_all has_opener found then 0 else 7

-- The output gained the lines of what was found, and the status says whether each message has an
-- opener.
pub record WritesLines (count : ℕ) (found : List Audited) (before after : SinkState)
    (code : ℕ) : Type 0 where
  pub gained : Appends before.written after.written (audit_lines count found)
  pub status : code ≡ audit_status found

-- It was found of each message, and the output failed at the lines, of which it gained a front.
pub record LosesLines (trees : Trees) (name : List ℕ) (old new : ShelfState)
    (before after : SinkState) : Type 0 where
  pub count : ℕ
  pub found : List Audited
  pub all : FindsAll trees name old new count found
  pub front : SinkFails before after (audit_lines count found)

-- Why it wasn't found of each message.
abbrev pub AuditFails : Trees → (name : List ℕ) → ShelfState → ShelfState → Failure → Type 0
AuditFails trees name old new (failures.File refusal) =
    HasNoAudit trees name old new (failures.File refusal)
AuditFails trees name old new (failures.Outside outsides.ShelfFault) =
    HasNoAudit trees name old new (failures.Outside outsides.ShelfFault)
    ⊎ FindsNotAll trees name old new (failures.Outside outsides.ShelfFault)
AuditFails trees name old new (failures.Outside outsides.KeyringFault) =
    FindsNotAll trees name old new (failures.Outside outsides.KeyringFault)
AuditFails trees name old new (failures.Outside outsides.InputTooLong) =
    FindsNotAll trees name old new (failures.Outside outsides.InputTooLong)
AuditFails trees name old new failures.Memory = AuditLacksMemory trees name old new
AuditFails trees name old new failure = ⊥

-- Why `audit` wrote no lines, or lost them. `unwritten` says that the output is as before, as it is
-- but where it failed.
abbrev pub AuditEnds : Trees → (name : List ℕ) → ShelfState → ShelfState → SinkState → SinkState
    → (unwritten : Type 0) → Failure → Type 0
AuditEnds trees name old new before after unwritten (failures.Outside outsides.SinkFault) =
    LosesLines trees name old new before after
AuditEnds trees name old new before after unwritten failure =
    AuditFails trees name old new failure × unwritten

-- It was found of each message, and the lines were written.
pub record WritesAudit (trees : Trees) (name : List ℕ) (old new : ShelfState)
    (before after : SinkState) (code : ℕ) : Type 0 where
  pub count : ℕ
  pub found : List Audited
  pub all : FindsAll trees name old new count found
  pub writes : WritesLines count found before after code
