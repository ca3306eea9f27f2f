-- What an audit says, where the shelf tells its files and the tree tells its keys.
use Rattle.std.specs.Prelude.{◌≡◌, ◌≤◌, ◌<◌, ◌^◌, ℕ, List, [], ◌∷◌, length, map, All, Option}
use Rattle.std.specs.Prelude.{Some, Ok}
use Rattle.std.specs.Io.KnownBytes.{Appends}
use Rattle.esdk_base.specs.Shelf.{Files, Holds}
use Rattle.keyring_trait.specs.Keyring.{KeyringMeaning}
use Rattle.keyring_trait.specs.Wrapping.{WrapKeyValue}
use Rattle.job_file.specs.AuditFile.{AuditFile}
use Rattle.job_file.specs.Audit.{audit_of}
use Rattle.whole_input.specs.File.{most_file}
use Rattle.audit_core.specs.Laws.{told_by}
use Rattle.audit_core.specs.Lines.{audit_lines}
use Rattle.audit_core.specs.MessageFiles.{AreHeld}
use Rattle.audit_core.specs.Messages.{Message, audited}
use Rattle.esdk_run.specs.Audit.{audit_status}
use Rattle.esdk_run.specs.Objects.{Objects}
use Rattle.esdk_run.specs.Trees.{Trees}

-- The shelf tells the file of the audit, its keyring file, and the files of its messages. These are
-- the wrapping keys of each leaf of the tree, and the messages with the pairs that are given.
pub record HoldsAudit (trees : Trees) (files : Option Files) (name : List ℕ) (tree : KeyringMeaning)
    (leaves : List (List WrapKeyValue)) (messages : List Message) : Type 0 where
  pub bytes : List ℕ
  pub holds : Holds files name bytes
  pub file : AuditFile
  pub is : audit_of bytes ≡ Ok file
  pub keyring : List ℕ
  pub holds_keyring : Holds files file.keyring keyring
  pub tree_is : trees.read keyring ≡ Ok (tree ∷ [])
  pub meanings : List KeyringMeaning
  pub leaves_are : trees.leaves keyring ≡ Ok meanings
  pub told : told_by meanings ≡ Some leaves
  pub holds_messages : AreHeld files file.messages messages

-- The output gained the lines of what these bytes say, and the status says whether each message has
-- an opener.
pub record ShowsOpeners (leaves : List (List WrapKeyValue)) (messages : List Message)
    (before after : Objects) (code : ℕ) : Type 0 where
  pub gained : Appends before.output.written after.output.written
      (audit_lines (length leaves) (map (audited leaves) messages))
  pub status : code ≡ audit_status (map (audited leaves) messages)

-- Both files are no longer than a file may be that is read whole, and each message's is shorter
-- than 2^62 bytes.
pub record HasShortFiles (bytes keyring : List ℕ) (messages : List Message) : Type 0 where
  pub few : length bytes ≤ most_file
  pub keyring_few : length keyring ≤ most_file
  pub messages_short : All (λ m. length m.bytes < 2 ^ 62) messages
