-- Which fields of a header have a fault, row by row, without the reader: the fields as they are
-- spelled. Standard: AWS Encryption SDK, message header, "Structure" of versions 1.0 and 2.0; the
-- faults M1 to M9 and M23 to M26 are this library's.
use Rattle.std.specs.Prelude.{◌≡◌, ◌≢◌, ◌⊎◌, ℕ, ◌+◌, ◌*◌, ◌^◌, ◌<◌, ◌≤◌, List, ◌++◌, length, All}
use Rattle.std.specs.Prelude.{Some, None, false, IfSome, IsSomeAnd}
use Rattle.std.specs.Int.{w8, w16, w32}
use Rattle.std.specs.List.{flat_map}
use Rattle.esdk_fields.specs.declared.faults.ContextFault.{ContextFault}
use Rattle.esdk_fields.specs.declared.faults.Fault.{Fault}
use Rattle.esdk_fields.specs.declared.faults.Fault.TheVariants.{BadVersion, UnsupportedSuite}
use Rattle.esdk_fields.specs.declared.faults.Fault.TheVariants.{BadContext, NoDataKeys}
use Rattle.esdk_fields.specs.declared.faults.Fault.TheVariants.{TooManyDataKeys, BadContentType}
use Rattle.esdk_fields.specs.declared.faults.Fault.TheVariants.{BadFrameLength, HeaderTooLong}
use Rattle.esdk_fields.specs.declared.faults.Fault.TheVariants.{UnitTooLong, BadType, BadReserved}
use Rattle.esdk_fields.specs.declared.faults.Fault.TheVariants.{BadIvLength}
use Rattle.esdk_fields.specs.declared.faults.Fault.TheVariants as faults
use Rattle.esdk_fields.specs.Numbers.{to_big_endian}
use Rattle.esdk_fields.specs.Sized.{sized}
use Rattle.suite_table.specs.declared.suite.Suite.{Suite}
use Rattle.suite_table.specs.declared.suite.Suite.TheVariants.{Uncommitted}
use Rattle.suite_table.specs.Suites.{suite_id, format_version, id_length}
use Rattle.context_codec.specs.Split.{context_fault}
use Rattle.edk_codec.specs.Entry.{Entry, IsEntry}
use Rattle.header_codec.specs.declared.settings.Settings.{Settings}
use Rattle.header_codec.specs.Header.{Opening, IsAllowed, latest_end, version_text, reserved_text}
use Rattle.header_codec.specs.Header.{opening_text, edks_text}

-- ---- fields that have no fault

-- version, type, suite, message id and context
unfoldable pub opened_text : Opening → List ℕ → List ℕ
opened_text o context = opening_text o ++ sized context

pub record IsIdentified (settings : Settings) (o : Opening) : Type 0 where
  pub allowed : IsAllowed settings.uncommitted o.suite
  pub id_len : length o.id ≡ id_length o.suite

pub record OpeningIsRead (settings : Settings) (o : Opening) (context : List ℕ) : Type 0 where
  pub identified : IsIdentified settings o
  pub short : length context ≤ 65535
  pub good : context_fault context ≡ None

-- a count of data keys that is taken
pub record IsCount (settings : Settings) (count : ℕ) : Type 0 where
  pub some : 1 ≤ count
  pub few : count ≤ 65535
  pub limit : IfSome settings.max_keys (λ most. count ≤ most)

-- then the count, and so many parts of entries
unfoldable pub parts_text : Opening → List ℕ → ℕ → List (List ℕ) → List ℕ
parts_text o context count parts =
    opened_text o context ++ to_big_endian w16 count ++ flat_map sized parts

-- all fields through the data keys
unfoldable pub keys_text : Opening → List ℕ → List Entry → List ℕ
keys_text o context entries = opened_text o context ++ edks_text entries

pub record AreKeys (settings : Settings) (o : Opening) (context : List ℕ)
    (entries : List Entry) : Type 0 where
  pub opened : OpeningIsRead settings o context
  pub count : IsCount settings (length entries)
  pub each : All IsEntry entries
  pub end : length (keys_text o context entries) ≤ latest_end

-- a content type
abbrev pub IsType : ℕ → Type 0
IsType kind = (kind ≡ 1) ⊎ (kind ≡ 2)

-- all fields before the frame length
unfoldable pub typed_text : Opening → List ℕ → List Entry → ℕ → List ℕ
typed_text o context entries kind =
    keys_text o context entries ++ to_big_endian w8 kind ++ reserved_text o.suite

-- ---- the table's rows

-- These are whole fields. The last has this fault, by the first row of the table that speaks of it,
-- and none before it has one.
pub data Offends (settings : Settings) (fields : List ℕ) (fault : Fault) : Type 0 where
  Version : (version : ℕ) → version < 2 ^ 8 → version ≢ 1 → version ≢ 2
      → fields ≡ to_big_endian w8 version → fault ≡ BadVersion version
      → Offends settings fields fault
  MessageType : (kind : ℕ) → kind < 2 ^ 8 → kind ≢ 0x80
      → fields ≡ to_big_endian w8 (format_version Uncommitted) ++ to_big_endian w8 kind
      → fault ≡ BadType kind → Offends settings fields fault
  Forbidden : settings.uncommitted ≡ false
      → fields ≡ version_text Uncommitted ++ to_big_endian w16 (suite_id Uncommitted)
      → fault ≡ faults.Uncommitted (suite_id Uncommitted) → Offends settings fields fault
  SuiteId : (suite : Suite) (id : ℕ) → id < 2 ^ 16 → id ≢ suite_id suite
      → fields ≡ version_text suite ++ to_big_endian w16 id → fault ≡ UnsupportedSuite id
      → Offends settings fields fault
  Context : (o : Opening) (context : List ℕ) (why : ContextFault) → IsIdentified settings o
      → length context ≤ 65535 → context_fault context ≡ Some why
      → fields ≡ opened_text o context → fault ≡ BadContext why → Offends settings fields fault
  NoKeys : (o : Opening) (context : List ℕ) → OpeningIsRead settings o context
      → fields ≡ opened_text o context ++ to_big_endian w16 0 → fault ≡ NoDataKeys
      → Offends settings fields fault
  ManyKeys : (o : Opening) (context : List ℕ) (count : ℕ) → OpeningIsRead settings o context
      → 1 ≤ count
      → count < 2 ^ 16 → IsSomeAnd settings.max_keys (λ most. most < count)
      → fields ≡ opened_text o context ++ to_big_endian w16 count → fault ≡ TooManyDataKeys count
      → Offends settings fields fault
  LatePart : (o : Opening) (context : List ℕ) (count : ℕ) (parts : List (List ℕ)) (n : ℕ)
      → OpeningIsRead settings o context → IsCount settings count
      → length parts < 3 * count → All (λ part. length part ≤ 65535) parts
      → length (parts_text o context count parts) ≤ latest_end
      → n < 2 ^ 16 → latest_end < length (parts_text o context count parts) + 2 + n
      → fields ≡ parts_text o context count parts ++ to_big_endian w16 n
      → fault ≡ HeaderTooLong (length (parts_text o context count parts) + 2 + n)
      → Offends settings fields fault
  ContentType : (o : Opening) (context : List ℕ) (entries : List Entry) (kind : ℕ)
      → AreKeys settings o context entries → kind < 2 ^ 8 → kind ≢ 1 → kind ≢ 2
      → fields ≡ keys_text o context entries ++ to_big_endian w8 kind → fault ≡ BadContentType kind
      → Offends settings fields fault
  Reserved : (o : Opening) (context : List ℕ) (entries : List Entry) (kind zeros : ℕ)
      → AreKeys settings o context entries → o.suite ≡ Uncommitted
      → IsType kind → zeros < 2 ^ 32 → zeros ≢ 0
      → fields ≡ keys_text o context entries ++ to_big_endian w8 kind ++ to_big_endian w32 zeros
      → fault ≡ BadReserved zeros → Offends settings fields fault
  IvLength : (o : Opening) (context : List ℕ) (entries : List Entry) (kind iv_length : ℕ)
      → AreKeys settings o context entries → o.suite ≡ Uncommitted
      → IsType kind → iv_length < 2 ^ 8 → iv_length ≢ 12
      → fields ≡ keys_text o context entries ++ to_big_endian w8 kind ++ to_big_endian w32 0
      ++ to_big_endian w8 iv_length → fault ≡ BadIvLength iv_length
      → Offends settings fields fault
  FrameLength : (o : Opening) (context : List ℕ) (entries : List Entry) (kind frame : ℕ)
      → AreKeys settings o context entries → frame < 2 ^ 32
      → ((kind ≡ 1) × (frame ≢ 0)) ⊎ ((kind ≡ 2) × (frame ≡ 0))
      → fields ≡ typed_text o context entries kind ++ to_big_endian w32 frame
      → fault ≡ BadFrameLength frame → Offends settings fields fault
  LongFrame : (o : Opening) (context : List ℕ) (entries : List Entry) (frame : ℕ)
      → AreKeys settings o context entries → 1 ≤ frame → frame < 2 ^ 32
      → IsSomeAnd settings.max_unit (λ most. most < frame)
      → fields ≡ typed_text o context entries 2 ++ to_big_endian w32 frame
      → fault ≡ UnitTooLong frame → Offends settings fields fault

-- The fields at the front of the bytes offend so, and end there.
pub record HasOffence (settings : Settings) (bytes : List ℕ) (fault : Fault) (at : ℕ) : Type 0 where
  pub fields : List ℕ
  pub rest : List ℕ
  pub front : bytes ≡ fields ++ rest
  pub end : at ≡ length fields
  pub offends : Offends settings fields fault
