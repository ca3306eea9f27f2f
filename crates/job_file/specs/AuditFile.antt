-- What stands in the file of an audit.
use Rattle.std.specs.Prelude.{◌≤◌, ℕ, List, length}
use Rattle.job_file.specs.declared.audit.AuditMessage.{AuditMessage}

-- The keyring file's name, and the messages in their order.
pub record AuditFile : Type 0 where
  pub keyring : List ℕ
  pub messages : List AuditMessage

-- What every such file keeps.
pub record IsAuditFile (file : AuditFile) : Type 0 where
  pub some : 1 ≤ length file.messages
  pub few : length file.messages ≤ 1000
