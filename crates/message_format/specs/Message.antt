-- The message that is written of a plaintext: header, authentication tag, framed body. Standard:
-- AWS Encryption SDK Specification, "AWS Encryption SDK Message Format", version 2.0 with the
-- committing suite 0x0478.
use Rattle.std.specs.Prelude.{◌≡◌, ℕ, ◌-◌, ◌*◌, ◌^◌, ◌<◌, ◌≤◌, true, List, [], ◌++◌, length, All}
use Rattle.cipher_spec.specs.Gcm.{sealed}
use Rattle.context_codec.specs.Context.{KeyValue, IsContext, ctx_text}
use Rattle.edk_codec.specs.Entry.{Entry, IsEntry}
use Rattle.header_codec.specs.Header.{latest_end}
use Rattle.header_codec.specs.Written.{committing, written_header, keys_end}
use Rattle.suite_table.specs.declared.suite.Suite.{Suite}
use Rattle.suite_table.specs.declared.suite.Suite.TheVariants.{Committing}
use Rattle.suite_table.specs.Suites.{id_length, zero_iv}
use Rattle.suite_table.specs.Keys.{derived, commitment}
use Rattle.context_codec.specs.Parts.{holds, stored_of, only_of}
use Rattle.frame_codec.specs.Unit.{Under}
use Rattle.body_format.specs.Written.{framed_body}

-- "Authentication Tag": AES-256-GCM of the empty text under this derived key and the header's
-- initialization vector. What is authenticated is the header body as it stands in the message, and
-- behind it the text of the pairs that the header doesn't store.
abbrev pub tag_under : List ℕ → List ℕ → List ℕ → List KeyValue → List ℕ
tag_under derived_key iv raw only = (sealed derived_key iv (raw ++ ctx_text only) []).1

-- the same under the key that the suite derives from the data key and the message id
unfoldable pub header_tag : Suite → List ℕ → List ℕ → List KeyValue → List ℕ → List ℕ → List ℕ
header_tag suite iv raw only key id = tag_under (derived suite key id) iv raw only

-- the header body: it stores the pairs whose keys aren't required, and commits to the data key
unfoldable pub header_body : List KeyValue → List (List ℕ) → ℕ → List ℕ → List Entry → List ℕ
    → List ℕ
header_body c required size key entries id =
    written_header id (stored_of required c) entries size (commitment key id)

-- what the frames stand under, of the data key and the message id
abbrev pub under : List ℕ → List ℕ → Under
under key id = record { key = derived Committing key id; id = id }

-- The message of a text: its context, the keys of it that are required of the reader, the frame
-- length, the data key, the entries that hold this key wrapped, and the message id. The required
-- pairs are authenticated with the header, and not stored.
unfoldable pub message : List ℕ → List KeyValue → List (List ℕ) → ℕ → List ℕ → List Entry → List ℕ
    → List ℕ
message text c required size key entries id =
    let raw = header_body c required size key entries id in
    raw ++ header_tag Committing zero_iv raw (only_of required c) key id
    ++ framed_body size (under key id) text

-- What can be written: four bytes hold the frame length and each frame's number, the context has a
-- text, what is required is in it, and the header's fields hold its parts.
pub record IsWritable (text : List ℕ) (c : List KeyValue) (required : List (List ℕ)) (size : ℕ)
    (key : List ℕ) (entries : List Entry) (id : List ℕ) : Type 0 where
  pub some : 1 ≤ size
  pub narrow : size < 2 ^ 32
  pub short : length text ≤ (2 ^ 32 - 1) * size
  pub context : IsContext c
  pub held : All (λ k. holds c k ≡ true) required
  pub entries_some : 1 ≤ length entries
  pub entries_few : length entries ≤ 65535
  pub entries_are : All IsEntry entries
  pub entries_end : keys_end (committing id) (stored_of required c) entries ≤ latest_end
  pub key_long : length key ≡ 32
  pub id_long : length id ≡ id_length Committing
