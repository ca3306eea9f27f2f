-- What a message begins with, and why it can't begin. Standard: AWS Encryption SDK Specification,
-- "Encrypt".
use Rattle.std.specs.Prelude.{◌≡◌, ℕ, ◌-◌, ◌*◌, ◌^◌, List, ◌++◌, ⊤, Option, Some, take, drop}
use Rattle.esdk_fields.specs.declared.refusals.Refusal.{Refusal}
use Rattle.context_codec.specs.Parts.{only_of, stored_of}
use Rattle.context_codec.specs.declared.insert.PairError.{PairError}
use Rattle.context_codec.specs.declared.insert.PairError.TheVariants as pairs
use Rattle.header_codec.specs.Written.{header_refusal}
use Rattle.suite_table.specs.declared.suite.Suite.TheVariants.{Committing}
use Rattle.suite_table.specs.Suites.{zero_iv}
use Rattle.keyring_trait.specs.Materials.{EncMaterialsValue}
use Rattle.message_format.specs.Message.{header_body, header_tag, message}
use Rattle.stream_seal.specs.declared.errors.SealError.{SealError}
use Rattle.stream_seal.specs.declared.errors.SealError.TheVariants as errors

-- the message of a text with these materials, in frames of this length, under this id
abbrev pub message_of : EncMaterialsValue → ℕ → List ℕ → List ℕ → List ℕ
message_of m size id text = message text m.context m.required size m.key m.entries id

-- what it begins with: the header and the header's tag
unfoldable pub start_of : EncMaterialsValue → ℕ → List ℕ → List ℕ
start_of m size id =
    let raw = header_body m.context m.required size m.key m.entries id in
    raw ++ header_tag Committing zero_iv raw (only_of m.required m.context) m.key id

-- why such a message can't begin: there are more entries than the limit (Q7), or its header would
-- be too long (Q8)
abbrev pub start_refusal : EncMaterialsValue → Option ℕ → List ℕ → Option Refusal
start_refusal m max_keys id = header_refusal id (stored_of m.required m.context) m.entries max_keys

-- A message isn't begun for that reason. Want of memory is free.
abbrev pub BeginsNot : Option Refusal → SealError → Type 0
BeginsNot refusal (errors.Refusal r) = refusal ≡ Some r
BeginsNot refusal errors.Stopped = ⊥
BeginsNot refusal errors.Memory = ⊤

-- a message isn't begun for the reason that no header is written
abbrev pub NamesPairError : PairError → SealError → Type 0
NamesPairError (pairs.Refusal refusal) error = error ≡ errors.Refusal refusal
NamesPairError pairs.Memory error = error ≡ errors.Memory

-- how many frames a message has at the most: each frame's number has four bytes
abbrev pub most_frames : ℕ
most_frames = 2 ^ 32 - 1

-- how many bytes a message has room for
abbrev pub most_text : ℕ → ℕ
most_text size = most_frames * size

-- the message id among the bytes drawn, and what the materials are made with
abbrev pub drawn_id : List ℕ → List ℕ
drawn_id drawn = take 32 drawn

abbrev pub drawn_rest : List ℕ → List ℕ
drawn_rest drawn = drop 32 drawn
