-- How any bytes are judged as a message, once it is answered what unlocks it. Standard: AWS
-- Encryption SDK Specification, "Decrypt", from "Parse the header" to "Decrypt the message body";
-- the faults M1 to M26 are this library's.
use Rattle.std.specs.Prelude.{◌≡◌, ℕ, ◌+◌, Bool, true, false, not, List, [], length, Option, Some}
use Rattle.std.specs.Prelude.{None, Result, Ok, Err, if◌then◌else◌}
use Rattle.std.specs.List.{concat}
use Rattle.std.specs.Str.{bytes_eq}
use Rattle.esdk_fields.specs.declared.faults.Fault.{Fault}
use Rattle.esdk_fields.specs.declared.faults.Fault.TheVariants.{Commitment, HeaderTag}
use Rattle.esdk_fields.specs.Place.{Place, start}
use Rattle.esdk_fields.specs.Reading.{Reading, Read, Refused, Wanting}
use Rattle.context_codec.specs.Context.{KeyValue}
use Rattle.header_codec.specs.declared.settings.Settings.{Settings}
use Rattle.header_codec.specs.Header.{HeaderValue}
use Rattle.header_codec.specs.Table.{HeaderFields, header, made_of}
use Rattle.suite_table.specs.declared.suite.Suite.{Suite}
use Rattle.suite_table.specs.declared.suite.Suite.TheVariants.{Committing, Uncommitted}
use Rattle.suite_table.specs.Keys.{derived, commitment}
use Rattle.context_codec.specs.Parts.{stored_in}
use Rattle.keyring_trait.specs.Unlocking.{Unlocking, Refuses, Unlocks}
use Rattle.body_format.specs.declared.verdicts.Verdict.{Verdict}
use Rattle.body_format.specs.declared.verdicts.Verdict.TheVariants.{Going, Faulty}
use Rattle.body_format.specs.Rows.{JudgedBody}
use Rattle.body_format.specs.Body.{judged_body}
use Rattle.message_format.specs.Message.{header_tag}

-- Whether the message was unlocked, the contents that were opened, in their order, and what is to
-- be said of all the bytes: a fault, or that the message is whole, or that more is wanted.
pub record Judged : Type 0 where
  pub unlocked : Bool
  pub units : List (List ℕ)
  pub verdict : Verdict

-- nothing was unlocked, and nothing is released
abbrev pub locked : Verdict → Judged
locked verdict = record { unlocked = false; units = []; verdict = verdict }

abbrev pub opened_as : JudgedBody → Judged
opened_as body = record { unlocked = true; units = body.units; verdict = body.verdict }

-- whether this is the commitment to the data key; under a suite without commitments there is
-- nothing to ask
abbrev pub is_committed : Suite → List ℕ → List ℕ → List ℕ → Bool
is_committed Committing committed key id = bytes_eq committed (commitment key id)
is_committed Uncommitted committed key id = true

-- whether the header commits to the data key, where its suite asks for that
abbrev pub commits : HeaderValue → List ℕ → Bool
commits h key = is_committed h.suite h.commitment key h.message_id

-- M16, where the header doesn't commit to this data key; else M17, where its tag isn't that of the
-- header and of the pairs that it doesn't store
unfoldable pub lock_fault : HeaderValue → List KeyValue → List ℕ → Option Fault
lock_fault h only key =
    if not (commits h key) then Some Commitment
    else if not (bytes_eq h.tag (header_tag h.suite h.iv h.raw only key h.message_id))
    then Some HeaderTag
    else None

-- What unlocking a header with this data key comes to: nothing is wrong with the lock, and this is
-- the key of the body; or the lock has this fault.
abbrev pub UnlocksAs : HeaderValue → List KeyValue → List ℕ → Result (List ℕ) Fault → Type 0
UnlocksAs h only key (Ok derived_key) =
    (lock_fault h only key ≡ None) × (derived_key ≡ derived h.suite key h.message_id)
UnlocksAs h only key (Err fault) = lock_fault h only key ≡ Some fault

-- the header that was read at the front of the bytes
abbrev pub header_of : List ℕ → HeaderFields → HeaderValue
header_of bytes parts = made_of bytes parts (stored_in parts.context)

-- the body, once nothing is wrong with the lock
abbrev pub judged_lock : Settings → HeaderValue → List ℕ → Place → Option Fault → Judged
judged_lock settings h key body (Some fault) = locked (Faulty fault)
judged_lock settings h key body None = opened_as
    (judged_body h.content settings.max_unit (derived h.suite key h.message_id) h.message_id body)

-- the header is whole, and the body begins there
abbrev pub judged_header : Settings → HeaderValue → Place → Unlocking → Judged
judged_header settings h body (Refuses fault) = locked (Faulty fault)
judged_header settings h body (Unlocks whole only key) =
    judged_lock settings h key body (lock_fault h only key)

abbrev pub judged_reading : List ℕ → Settings → Unlocking → Reading HeaderFields → Judged
judged_reading bytes settings unlocking (Refused fault at) = locked (Faulty fault)
judged_reading bytes settings unlocking Wanting = locked Going
judged_reading bytes settings unlocking (Read parts body) =
    judged_header settings (header_of bytes parts) body unlocking

-- The judgement of all the bytes, when the header is unlocked so.
unfoldable pub judged : List ℕ → Settings → Unlocking → Judged
judged bytes settings unlocking =
    judged_reading bytes settings unlocking (header settings (start bytes))

-- what was released of the plaintext
abbrev pub content : Judged → List ℕ
content j = concat j.units

-- the unlocking, and each unit
abbrev pub marks : Judged → ℕ
marks j = if j.unlocked then length j.units + 1 else length j.units
