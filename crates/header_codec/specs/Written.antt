-- The header that is written: frames, and the context's pairs in the order of their keys. Tests
-- write headers of version 1.0 too. Standard: AWS Encryption SDK, message header, "Structure" of
-- versions 1.0 and 2.0; the refusals Q7 and Q8 are this library's.
use Rattle.std.specs.Prelude.{◌≡◌, ℕ, ◌≤◌, List, [], length, All, nat_lt, if◌then◌else◌, Option}
use Rattle.std.specs.Prelude.{Some, None}
use Rattle.esdk_fields.specs.declared.contents.Content.{Content}
use Rattle.esdk_fields.specs.declared.contents.Content.TheVariants.{Framed}
use Rattle.esdk_fields.specs.declared.refusals.Refusal.{Refusal}
use Rattle.esdk_fields.specs.declared.refusals.Refusal.TheVariants.{TooManyDataKeys, HeaderTooLong}
use Rattle.suite_table.specs.declared.suite.Suite.TheVariants.{Committing, Uncommitted}
use Rattle.suite_table.specs.Suites.{id_length, data_length, zero_iv}
use Rattle.context_codec.specs.Context.{KeyValue, IsContext, ctx_text}
use Rattle.edk_codec.specs.Entry.{Entry, IsEntry}
use Rattle.header_codec.specs.Header.{Opening, HeaderValue, IsContent, latest_end, header_text}
use Rattle.header_codec.specs.Offence.{keys_text}
use Rattle.esdk_fields.specs.Limits.{is_over}

-- What a header is made of.
pub record HeaderParts : Type 0 where
  pub opening : Opening
  pub stored : List KeyValue
  pub entries : List Entry
  pub content : Content
  pub commitment : List ℕ

-- A header of these parts, with this body and this authentication.
abbrev pub header_from : HeaderParts → List ℕ → List ℕ → List ℕ → HeaderValue
header_from parts raw iv tag = record {
  suite = parts.opening.suite;
  message_id = parts.opening.id;
  stored = parts.stored;
  entries = parts.entries;
  content = parts.content;
  commitment = parts.commitment;
  raw = raw;
  iv = iv;
  tag = tag;
}

-- the header body of these parts (a header's text doesn't speak of its body and authentication)
unfoldable pub body_of_parts : HeaderParts → List ℕ
body_of_parts parts = header_text (ctx_text parts.stored) (header_from parts [] [] [])

-- these parts, their body, and this authentication
abbrev pub header_value : HeaderParts → List ℕ → List ℕ → HeaderValue
header_value parts iv tag = header_from parts (body_of_parts parts) iv tag

-- Parts that a header can have.
pub record AreParts (parts : HeaderParts) : Type 0 where
  pub id_len : length parts.opening.id ≡ id_length parts.opening.suite
  pub is_context : IsContext parts.stored
  pub some : 1 ≤ length parts.entries
  pub few : length parts.entries ≤ 65535
  pub each : All IsEntry parts.entries
  pub content : IsContent parts.content
  pub commitment_len : length parts.commitment ≡ data_length parts.opening.suite

-- the offset where the encrypted data keys end
unfoldable pub keys_end : Opening → List KeyValue → List Entry → ℕ
keys_end o stored entries = length (keys_text o (ctx_text stored) entries)

-- Q8, where the encrypted data keys would end beyond offset 2^24
abbrev pub end_refusal : Opening → List KeyValue → List Entry → Option Refusal
end_refusal o stored entries = if nat_lt latest_end (keys_end o stored entries)
    then Some (HeaderTooLong (keys_end o stored entries)) else None

-- ---- version 2.0

-- a header that commits to its data key begins so
abbrev pub committing : List ℕ → Opening
committing id = record { suite = Committing; id = id }

-- message id, stored pairs, encrypted data keys, frame length, commitment
abbrev pub parts_with : List ℕ → List KeyValue → List Entry → ℕ → List ℕ → HeaderParts
parts_with id stored entries frame commitment = record {
  opening = committing id;
  stored = stored;
  entries = entries;
  content = Framed frame;
  commitment = commitment;
}

-- the header body of these parts
abbrev pub written_header : List ℕ → List KeyValue → List Entry → ℕ → List ℕ → List ℕ
written_header id stored entries frame commitment =
    body_of_parts (parts_with id stored entries frame commitment)

-- these parts, their body, and this tag
abbrev pub written_value : List ℕ → List KeyValue → List Entry → ℕ → List ℕ → List ℕ → HeaderValue
written_value id stored entries frame commitment tag =
    header_value (parts_with id stored entries frame commitment) zero_iv tag

-- Parts that such a header can have.
abbrev pub AreHeaderParts : List ℕ → List KeyValue → List Entry → ℕ → List ℕ → Type 0
AreHeaderParts id stored entries frame commitment =
    AreParts (parts_with id stored entries frame commitment)

-- Q7, where there are more encrypted data keys than the limit; else Q8
abbrev pub header_refusal : List ℕ → List KeyValue → List Entry → Option ℕ → Option Refusal
header_refusal id stored entries max_keys =
    if is_over max_keys (length entries) then Some (TooManyDataKeys (length entries))
    else end_refusal (committing id) stored entries

-- ---- version 1.0

abbrev pub uncommitted : List ℕ → Opening
uncommitted id = record { suite = Uncommitted; id = id }

-- message id, stored pairs, encrypted data keys, content
abbrev pub legacy_parts : List ℕ → List KeyValue → List Entry → Content → HeaderParts
legacy_parts id stored entries content = record {
  opening = uncommitted id;
  stored = stored;
  entries = entries;
  content = content;
  commitment = [];
}

-- the header body of these parts
abbrev pub legacy_header : List ℕ → List KeyValue → List Entry → Content → List ℕ
legacy_header id stored entries content = body_of_parts (legacy_parts id stored entries content)

-- how many bytes an entry's text has at most: three parts of 65,535 bytes, each behind two bytes of
-- length
abbrev pub longest_entry : ℕ
longest_entry = 196611
