-- Reading a header: the table of its fields, line by line, and what is judged at the last byte of
-- each. Standard: AWS Encryption SDK, message header, "Structure" of versions 1.0 and 2.0; the
-- faults M1 to M9 and M23 to M26 are this library's.
use Rattle.std.specs.Prelude.{◌≡◌, ℕ, ◌+◌, List, take, Bool, false, not, ◌&&◌, ◌||◌, ◌==◌, nat_lt}
use Rattle.std.specs.Prelude.{if◌then◌else◌, Option, option_map}
use Rattle.std.specs.Int.{w8, w16, w32}
use Rattle.esdk_fields.specs.Limits.{is_over}
use Rattle.esdk_fields.specs.declared.faults.Fault.{Fault}
use Rattle.esdk_fields.specs.declared.faults.Fault.TheVariants.{BadVersion, UnsupportedSuite}
use Rattle.esdk_fields.specs.declared.faults.Fault.TheVariants.{BadContext, NoDataKeys}
use Rattle.esdk_fields.specs.declared.faults.Fault.TheVariants.{TooManyDataKeys, BadContentType}
use Rattle.esdk_fields.specs.declared.faults.Fault.TheVariants.{BadFrameLength, HeaderTooLong}
use Rattle.esdk_fields.specs.declared.faults.Fault.TheVariants.{UnitTooLong, BadType, BadReserved}
use Rattle.esdk_fields.specs.declared.faults.Fault.TheVariants.{BadIvLength}
use Rattle.esdk_fields.specs.declared.faults.Fault.TheVariants as faults
use Rattle.esdk_fields.specs.declared.contents.Content.{Content}
use Rattle.esdk_fields.specs.declared.contents.Content.TheVariants.{Single, Framed}
use Rattle.esdk_fields.specs.Place.{Place, start}
use Rattle.esdk_fields.specs.Reading.{Read, FieldReader, ◌>>=◌, ◌>>◌, done, bytes, number, here}
use Rattle.esdk_fields.specs.Reading.{refuse_if, judge, repeat, reading_fault, value_of}
use Rattle.suite_table.specs.declared.suite.Suite.{Suite}
use Rattle.suite_table.specs.declared.suite.Suite.TheVariants.{Committing, Uncommitted}
use Rattle.suite_table.specs.Suites.{suite_id, id_length, data_length, zero_iv}
use Rattle.context_codec.specs.Context.{KeyValue}
use Rattle.context_codec.specs.Split.{context_fault, SpellsContext}
use Rattle.edk_codec.specs.Entry.{Entry}
use Rattle.header_codec.specs.declared.settings.Settings.{Settings}
use Rattle.header_codec.specs.Header.{Opening, HeaderValue, latest_end}

-- What is read: the context as its bytes, and the size of the body.
pub record HeaderFields : Type 0 where
  pub opening : Opening
  pub context : List ℕ
  pub entries : List Entry
  pub content : Content
  pub commitment : List ℕ
  pub size : ℕ
  pub iv : List ℕ
  pub tag : List ℕ

-- ---- tests

abbrev pub is_version : ℕ → Bool
is_version version = version == 1 || version == 2

-- the suite of a version's messages
abbrev pub suite_of_version : ℕ → Suite
suite_of_version version = if version == 1 then Uncommitted else Committing

-- the suite's own id, where the caller doesn't allow the suite
abbrev pub is_forbidden : Bool → Suite → ℕ → Bool
is_forbidden uncommitted Committing id = false
is_forbidden uncommitted Uncommitted id = id == suite_id Uncommitted && not uncommitted

abbrev pub is_content_type : ℕ → Bool
is_content_type kind = kind == 1 || kind == 2

-- 0 for a single block, at least 1 for frames
abbrev pub is_frame_length : ℕ → ℕ → Bool
is_frame_length kind frame = if kind == 1 then frame == 0 else not (frame == 0)

-- only frames are limited here
abbrev pub is_unit_over : Option ℕ → ℕ → ℕ → Bool
is_unit_over max_unit kind frame = kind == 2 && is_over max_unit frame

abbrev pub content_of : ℕ → ℕ → Content
content_of kind frame = if kind == 1 then Single else Framed frame

-- ---- the table

unfoldable pub type_field : Suite → FieldReader (Unit {0})
type_field Committing = done tt
type_field Uncommitted = do
  kind ← number w8
  refuse_if (not (kind == 0x80)) (BadType kind)

unfoldable pub suite_field : Bool → Suite → FieldReader (Unit {0})
suite_field uncommitted suite = do
  id ← number w16
  refuse_if (is_forbidden uncommitted suite id) (faults.Uncommitted id)
  refuse_if (not (id == suite_id suite)) (UnsupportedSuite id)

-- what follows the version
unfoldable pub identity : Bool → Suite → FieldReader Opening
identity uncommitted suite = do
  type_field suite
  suite_field uncommitted suite
  id ← bytes (id_length suite)
  done (record { suite = suite; id = id })

unfoldable pub opening : Bool → FieldReader Opening
opening uncommitted = do
  version ← number w8
  refuse_if (not (is_version version)) (BadVersion version)
  identity uncommitted (suite_of_version version)

unfoldable pub context_field : FieldReader (List ℕ)
context_field = do
  n ← number w16
  context ← bytes n
  judge (option_map BadContext (context_fault context))
  done context

-- a part of an entry: its length says where it ends
unfoldable pub entry_part : FieldReader (List ℕ)
entry_part = do
  n ← number w16
  at ← here
  refuse_if (nat_lt latest_end (at + n)) (HeaderTooLong (at + n))
  bytes n

unfoldable pub entry : FieldReader Entry
entry = do
  provider ← entry_part
  info ← entry_part
  cipher ← entry_part
  done (record { provider = provider; info = info; cipher = cipher })

unfoldable pub data_keys : Option ℕ → FieldReader (List Entry)
data_keys max_keys = do
  count ← number w16
  refuse_if (count == 0) NoDataKeys
  refuse_if (is_over max_keys count) (TooManyDataKeys count)
  repeat entry count

unfoldable pub reserved : Suite → FieldReader (Unit {0})
reserved Committing = done tt
reserved Uncommitted = do
  zeros ← number w32
  refuse_if (not (zeros == 0)) (BadReserved zeros)
  iv_length ← number w8
  refuse_if (not (iv_length == 12)) (BadIvLength iv_length)

unfoldable pub content_field : Suite → Option ℕ → FieldReader Content
content_field suite max_unit = do
  kind ← number w8
  refuse_if (not (is_content_type kind)) (BadContentType kind)
  reserved suite
  frame ← number w32
  refuse_if (not (is_frame_length kind frame)) (BadFrameLength frame)
  refuse_if (is_unit_over max_unit kind frame) (UnitTooLong frame)
  done (content_of kind frame)

-- the header's initialization vector: zeros, where it has none of its own
unfoldable pub header_iv : Suite → FieldReader (List ℕ)
header_iv Committing = done zero_iv
header_iv Uncommitted = bytes 12

unfoldable pub header : Settings → FieldReader HeaderFields
header settings = do
  o ← opening settings.uncommitted
  context ← context_field
  entries ← data_keys settings.max_keys
  kind ← content_field o.suite settings.max_unit
  commitment ← bytes (data_length o.suite)
  size ← here
  iv ← header_iv o.suite
  tag ← bytes 16
  done (record {
    opening = o;
    context = context;
    entries = entries;
    content = kind;
    commitment = commitment;
    size = size;
    iv = iv;
    tag = tag;
  })

-- ---- what the bytes say

-- the fault of the bytes, once its field is there
abbrev pub header_fault : Settings → List ℕ → Option Fault
header_fault settings bytes = reading_fault (header settings (start bytes))

-- the header that the bytes begin with, once it is whole
abbrev pub head : Settings → List ℕ → Option HeaderFields
head settings bytes = value_of (header settings (start bytes))

-- the header of these parts, its stored pairs being these
abbrev pub made_of : List ℕ → HeaderFields → List KeyValue → HeaderValue
made_of bytes parts stored = record {
  suite = parts.opening.suite;
  message_id = parts.opening.id;
  stored = stored;
  entries = parts.entries;
  content = parts.content;
  commitment = parts.commitment;
  raw = take parts.size bytes;
  iv = parts.iv;
  tag = parts.tag;
}

-- The bytes begin with this header and its authentication, which end there.
pub record BeginsWith (settings : Settings) (bytes : List ℕ) (h : HeaderValue)
    (end : Place) : Type 0 where
  pub parts : HeaderFields
  pub read : header settings (start bytes) ≡ Read parts end
  pub stored : SpellsContext parts.context h.stored
  pub is : h ≡ made_of bytes parts h.stored
