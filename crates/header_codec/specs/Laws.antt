-- What the laws of this crate say of the table, and of the headers that it reads.
use Rattle.std.specs.Prelude.{◌≡◌, ◌↔◌, ℕ, ◌+◌, ◌≤◌, List, ◌++◌, length, IfSome, None}
use Rattle.esdk_fields.specs.declared.faults.Fault.{Fault}
use Rattle.esdk_fields.specs.Bytes.{AreBytes}
use Rattle.esdk_fields.specs.Laws.{JudgesInOrder}
use Rattle.esdk_fields.specs.Place.{Place, start}
use Rattle.esdk_fields.specs.Reading.{Read, Refused}
use Rattle.header_codec.specs.declared.settings.Settings.{Settings}
use Rattle.header_codec.specs.Header.{HeaderValue, IsHeader, IsWithin, IsAllowed, IsIv}
use Rattle.header_codec.specs.Header.{authentication_text, frame_length}
use Rattle.header_codec.specs.Offence.{HasOffence}
use Rattle.header_codec.specs.Table.{HeaderFields, header, BeginsWith}
use Rattle.header_codec.specs.Written.{HeaderParts, AreParts, body_of_parts, header_value}
use Rattle.header_codec.specs.Written.{end_refusal}

-- A fault stays when bytes follow, and comes with the last byte of its field, no earlier and no
-- later. So does the header, once it is whole.
abbrev pub JudgesHeadersInOrder : Type 0
JudgesHeadersInOrder = (settings : Settings) → JudgesInOrder (header settings)

-- Without the table: the bytes are the body of this header, its authentication and what follows,
-- and no limit is passed.
pub record HeaderIsSpelled (settings : Settings) (bytes : List ℕ) (h : HeaderValue)
    (end : Place) : Type 0 where
  pub body : IsHeader h.raw h
  pub within : IsWithin settings h
  pub tag : length h.tag ≡ 16
  pub front : bytes ≡ h.raw ++ authentication_text h ++ end.left
  pub behind : end.at ≡ length h.raw + length (authentication_text h)

-- The table reads a header exactly where the bytes begin with a spelling of it.
abbrev pub ReadsSpelledHeaders : Type 0
ReadsSpelledHeaders = (settings : Settings) (bytes : List ℕ) (h : HeaderValue) (end : Place)
    → AreBytes bytes
    → BeginsWith settings bytes h end ↔ HeaderIsSpelled settings bytes h end

-- The same bytes begin with no two headers.
abbrev pub ReadsOneHeader : Type 0
ReadsOneHeader = (settings : Settings) (bytes : List ℕ) (h k : HeaderValue) (end other : Place)
    → BeginsWith settings bytes h end → BeginsWith settings bytes k other → (h ≡ k) × (end ≡ other)

-- Where the table reads to its end, there is a header.
abbrev pub ReadsSomeHeader : Type 0
ReadsSomeHeader = (settings : Settings) (bytes : List ℕ) (parts : HeaderFields) (end : Place)
    → header settings (start bytes) ≡ Read parts end
    → (h : HeaderValue) × BeginsWith settings bytes h end

-- A header is refused exactly where the fields at the front of the bytes have an offence, and with
-- that fault. All fields before the one that has it are whole and have none, so this is the offence
-- at the least offset where a field ends that has one; and where two rows speak of one field, the
-- upper one.
abbrev pub RefusesTheFirstOffence : Type 0
RefusesTheFirstOffence = (settings : Settings) (bytes : List ℕ) (fault : Fault) (at : ℕ)
    → AreBytes bytes
    → (header settings (start bytes) ≡ Refused fault at) ↔ HasOffence settings bytes fault at

-- What is written is the body of a header of these parts, with any authentication.
abbrev pub WritesHeaders : Type 0
WritesHeaders = (parts : HeaderParts) (iv tag : List ℕ) → AreParts parts
    → IsIv parts.opening.suite iv → IsHeader (body_of_parts parts) (header_value parts iv tag)

-- What is written is read back as these parts with whatever authentication stands behind it,
-- whatever follows, under any limits that the parts keep.
abbrev pub WrittenHeadersAreRead : Type 0
WrittenHeadersAreRead = (settings : Settings) (parts : HeaderParts) (iv tag more : List ℕ)
    → AreParts parts → IsIv parts.opening.suite iv → length tag ≡ 16
    → IsAllowed settings.uncommitted parts.opening.suite
    → end_refusal parts.opening parts.stored parts.entries ≡ None
    → IfSome settings.max_keys (λ most. length parts.entries ≤ most)
    → IfSome settings.max_unit (λ most. frame_length parts.content ≤ most)
    → BeginsWith settings (body_of_parts parts ++ authentication_text (header_value parts iv tag)
    ++ more)
    (header_value parts iv tag)
    (record {
      at = length (body_of_parts parts) + length (authentication_text (header_value parts iv tag));
      left = more;
    })
