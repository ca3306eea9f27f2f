-- What is found of a message, from its bytes. Of these only the header and its authentication
-- count, which are taken without limits; a message without a commitment isn't allowed (M23).
use Rattle.std.specs.Prelude.{ℕ, List, [], Option, Some, None}
use Rattle.esdk_fields.specs.declared.faults.Fault as faults
use Rattle.esdk_fields.specs.declared.faults.Fault.TheVariants.{Truncated}
use Rattle.esdk_fields.specs.Place.{start}
use Rattle.esdk_fields.specs.Reading.{Reading, Read, Refused, Wanting}
use Rattle.context_codec.specs.Context.{KeyValue}
use Rattle.header_codec.specs.Header.{HeaderValue, no_limits}
use Rattle.header_codec.specs.Table.{HeaderFields, header}
use Rattle.keyring_trait.specs.Unlocking.{pair_offence}
use Rattle.keyring_trait.specs.Wrapping.{WrapKeyValue}
use Rattle.message_format.specs.Judgement.{header_of}
use Rattle.audit_core.specs.declared.audited.Audited.{Audited}
use Rattle.audit_core.specs.declared.audited.Audited.TheVariants.{OpenedBy, Fault}
use Rattle.audit_core.specs.Openers.{openers}

-- A message, and the pairs that the caller gives for it.
pub record Message : Type 0 where
  pub bytes : List ℕ
  pub given : List KeyValue

-- what is wrong with the pairs, or else the openers
abbrev pub unless_offence : Option faults.Fault → List ℕ → Audited
unless_offence None numbers = OpenedBy numbers
unless_offence (Some fault) numbers = Fault fault

-- of a message of this header
abbrev pub audited_header : List (List WrapKeyValue) → HeaderValue → (given : List KeyValue)
    → Audited
audited_header leaves h given =
    unless_offence (pair_offence h.stored given []) (openers leaves h given)

-- what was read of the bytes: a header; or a fault; or a part of a header, which is M10
abbrev pub audited_reading : List (List WrapKeyValue) → Message → Reading HeaderFields → Audited
audited_reading leaves message (Read parts body) =
    audited_header leaves (header_of message.bytes parts) message.given
audited_reading leaves message (Refused fault at) = Fault fault
audited_reading leaves message Wanting = Fault Truncated

-- What is found of a message, where these are the wrapping keys of each leaf.
unfoldable pub audited : List (List WrapKeyValue) → Message → Audited
audited leaves message = audited_reading leaves message (header no_limits (start message.bytes))
