-- What the file of an audit means, or why it is refused.
use Rattle.std.specs.Prelude.{ℕ, List, Result, Ok}
use Rattle.esdk_fields.specs.declared.refusals.FileRefusal.{FileRefusal}
use Rattle.esdk_fields.specs.declared.refusals.FileRefusal.TheVariants.{NotJson, BadShape}
use Rattle.serde_json.specs.Data.{Items}
use Rattle.serde_json.specs.View.{items_view}
use Rattle.json_values.specs.Values.{json_value}
use Rattle.job_file.specs.declared.audit.AuditMessage.{AuditMessage}
use Rattle.job_file.specs.declared.audit_reading.AuditHead as found
use Rattle.job_file.specs.AuditFile.{AuditFile}
use Rattle.job_file.specs.AuditForm.{AuditHead, audit_head_of, audit_message_of}
use Rattle.job_file.specs.Jobs.{◌>>=◌, each_from, or_refuse}

-- the messages
abbrev pub messages_from : (number : ℕ) → Items → Result (List AuditMessage) FileRefusal
messages_from number items = each_from audit_message_of number items

-- What the bytes of the file mean; or the first refusal: K1, where they are no JSON; K2 with 0,
-- where the file's own members have another form; K2 with the number of the first message that has
-- another form.
unfoldable pub audit_of : (bytes : List ℕ) → Result AuditFile FileRefusal
audit_of bytes = do
  file ← or_refuse NotJson (json_value bytes)
  head ← or_refuse (BadShape 0) (audit_head_of file)
  messages ← messages_from 1 head.messages
  Ok (record { keyring = head.keyring; messages = messages })

-- what the code finds of a file's own members, where it stands in the file
abbrev pub audit_head_value : found.AuditHead → AuditHead
audit_head_value h = record { keyring = h.keyring.now; messages = items_view h.messages.now }
