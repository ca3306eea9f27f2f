-- The forms of the file of an audit and of its messages. They are this library's. A member that
-- stands twice counts as it stands last.
use Rattle.std.specs.Prelude.{ℕ, ◌+◌, ◌==◌, List, codes, Option, Some}
use Rattle.serde_json.specs.Data.{Data, Items}
use Rattle.json_values.specs.Values.{◌>>=◌, ◌>>◌, provided, member_count, present, text_at}
use Rattle.job_file.specs.declared.audit.AuditMessage.{AuditMessage}
use Rattle.job_file.specs.JobForm.{context_at, items_at, number_from}

-- What a file says of itself, and its messages, of which nothing is read yet.
pub record AuditHead : Type 0 where
  pub keyring : List ℕ
  pub messages : Items

-- {"version":1,"keyring":TEXT,"messages":[..]}
unfoldable pub audit_head_of : Data → Option AuditHead
audit_head_of d = do
  provided (member_count d == 3)
  version ← number_from 1 1 (codes "version") d
  keyring ← text_at (codes "keyring") d
  messages ← items_at (codes "messages") d
  Some (record { keyring = keyring; messages = messages })

-- {"from":TEXT,"given":{..}}, where the pairs may be absent
unfoldable pub audit_message_of : Data → Option AuditMessage
audit_message_of d = do
  provided (member_count d == 1 + present (codes "given") d)
  source ← text_at (codes "from") d
  given ← context_at (codes "given") d
  Some (record { from = source; given = given })
