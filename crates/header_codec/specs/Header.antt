-- A header as a value, and its one text. Standard: AWS Encryption SDK, message header, "Structure"
-- of versions 1.0 and 2.0. The suite says which version it is.
use Rattle.std.specs.Prelude.{◌≡◌, ℕ, ◌+◌, ◌<◌, ◌≤◌, ◌^◌, List, [], ◌++◌, length, All, IfSome, Bool}
use Rattle.std.specs.Prelude.{true, None, false}
use Rattle.std.specs.Int.{w8, w16, w32}
use Rattle.std.specs.List.{flat_map}
use Rattle.esdk_fields.specs.declared.contents.Content.{Content}
use Rattle.esdk_fields.specs.declared.contents.Content.TheVariants.{Single, Framed}
use Rattle.esdk_fields.specs.Numbers.{to_big_endian}
use Rattle.esdk_fields.specs.Sized.{sized}
use Rattle.suite_table.specs.declared.suite.Suite.{Suite}
use Rattle.suite_table.specs.declared.suite.Suite.TheVariants.{Committing, Uncommitted}
use Rattle.suite_table.specs.Suites.{suite_id, format_version, id_length, data_length, zero_iv}
use Rattle.context_codec.specs.Context.{KeyValue}
use Rattle.context_codec.specs.Split.{SpellsContext}
use Rattle.edk_codec.specs.Entry.{Entry, IsEntry, edk_text}
use Rattle.header_codec.specs.declared.settings.Settings.{Settings}

-- what a header begins with
pub record Opening : Type 0 where
  pub suite : Suite
  pub id : List ℕ

-- the fields of a header, its body as it stands in the message, and its authentication:
-- initialization vector and tag
pub record HeaderValue : Type 0 where
  pub suite : Suite
  pub message_id : List ℕ
  pub stored : List KeyValue
  pub entries : List Entry
  pub content : Content
  pub commitment : List ℕ
  pub raw : List ℕ
  pub iv : List ℕ
  pub tag : List ℕ

abbrev pub opening_of : HeaderValue → Opening
opening_of h = record { suite = h.suite; id = h.message_id }

-- "Content Type": 01 for a single block, 02 for frames
abbrev pub content_type : Content → ℕ
content_type Single = 1
content_type (Framed n) = 2

-- "Frame Length": 0 for a single block
abbrev pub frame_length : Content → ℕ
frame_length Single = 0
frame_length (Framed n) = n

-- a frame has at least one byte, and four bytes hold its length
abbrev pub IsContent : Content → Type 0
IsContent Single = Unit {0}
IsContent (Framed n) = (1 ≤ n) × (n < 2 ^ 32)

-- "Type", which version 1.0 alone has: 80
unfoldable pub type_text : Suite → List ℕ
type_text Committing = []
type_text Uncommitted = to_big_endian w8 0x80

-- version, and type
unfoldable pub version_text : Suite → List ℕ
version_text suite = to_big_endian w8 (format_version suite) ++ type_text suite

-- version, type, suite id, message id
unfoldable pub opening_text : Opening → List ℕ
opening_text o = version_text o.suite ++ to_big_endian w16 (suite_id o.suite) ++ o.id

-- the count of the encrypted data keys, and one after another
unfoldable pub edks_text : List Entry → List ℕ
edks_text entries = to_big_endian w16 (length entries) ++ flat_map edk_text entries

-- "Reserved" and "IV Length", which version 1.0 alone has: four zero bytes, and 12
unfoldable pub reserved_text : Suite → List ℕ
reserved_text Committing = []
reserved_text Uncommitted = to_big_endian w32 0 ++ to_big_endian w8 12

-- content type, reserved bytes, frame length
unfoldable pub content_text : Suite → Content → List ℕ
content_text suite content = to_big_endian w8 (content_type content) ++ reserved_text suite
    ++ to_big_endian w32 (frame_length content)

-- The fields of the body in their order, the context being spelled so.
unfoldable pub header_text : List ℕ → HeaderValue → List ℕ
header_text context h = opening_text (opening_of h) ++ sized context ++ edks_text h.entries
    ++ content_text h.suite h.content ++ h.commitment

-- "IV" of the header authentication, which version 1.0 alone has
abbrev pub iv_text : Suite → List ℕ → List ℕ
iv_text Committing iv = []
iv_text Uncommitted iv = iv

-- the header authentication
unfoldable pub authentication_text : HeaderValue → List ℕ
authentication_text h = iv_text h.suite h.iv ++ h.tag

-- twelve bytes; where the header has none of its own, zeros
abbrev pub IsIv : Suite → List ℕ → Type 0
IsIv Committing iv = iv ≡ zero_iv
IsIv Uncommitted iv = length iv ≡ 12

-- The bytes are the body of this header: the context's text spells the stored pairs, in any order,
-- and each other field has one spelling.
pub record IsHeader (bytes : List ℕ) (h : HeaderValue) : Type 0 where
  pub context : List ℕ
  pub spells : SpellsContext context h.stored
  pub short : length context ≤ 65535
  pub id : length h.message_id ≡ id_length h.suite
  pub some : 1 ≤ length h.entries
  pub few : length h.entries ≤ 65535
  pub entries : All IsEntry h.entries
  pub content : IsContent h.content
  pub commitment : length h.commitment ≡ data_length h.suite
  pub iv : IsIv h.suite h.iv
  pub text : bytes ≡ header_text context h
  pub raw : h.raw ≡ bytes

-- where the encrypted data keys end at the latest
abbrev pub latest_end : ℕ
latest_end = 16777216

-- how many bytes of the body stand behind the encrypted data keys: content type, reserved bytes,
-- frame length, commitment
abbrev pub behind_keys : Suite → ℕ
behind_keys Committing = 37
behind_keys Uncommitted = 10

-- what is read only where the caller allows it
abbrev pub IsAllowed : Bool → Suite → Type 0
IsAllowed uncommitted Committing = Unit {0}
IsAllowed uncommitted Uncommitted = uncommitted ≡ true

-- No limit is passed, and the suite is allowed.
pub record IsWithin (settings : Settings) (h : HeaderValue) : Type 0 where
  pub allowed : IsAllowed settings.uncommitted h.suite
  pub keys_end : length h.raw ≤ latest_end + behind_keys h.suite
  pub max_keys : IfSome settings.max_keys (λ most. length h.entries ≤ most)
  pub max_unit : IfSome settings.max_unit (λ most. frame_length h.content ≤ most)

-- What the type of headers keeps: the body is the header's own, and its data keys end in time.
pub record IsKept (h : HeaderValue) : Type 0 where
  pub body : IsHeader h.raw h
  pub keys_end : length h.raw ≤ latest_end + behind_keys h.suite

-- ---- a header without its stored pairs and its encrypted data keys

abbrev pub lock_of : HeaderValue → HeaderValue
lock_of h = record h { stored = []; entries = [] }

-- What the type of headers keeps of its parts: the header has its own body, and the lock is the
-- header without the other parts.
pub record IsParted (h lock : HeaderValue) : Type 0 where
  pub kept : IsKept h
  pub bare : lock ≡ lock_of h

-- What the type of locks keeps.
pub record IsLock (h : HeaderValue) : Type 0 where
  pub id : length h.message_id ≡ id_length h.suite
  pub content : IsContent h.content
  pub commitment : length h.commitment ≡ data_length h.suite
  pub keys_end : length h.raw ≤ latest_end + behind_keys h.suite

-- no limits, and only messages that commit to their data key
abbrev pub no_limits : Settings
no_limits = record { max_keys = None; max_unit = None; uncommitted = false }
