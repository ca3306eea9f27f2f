-- What is written of the new message: its front while the old one goes on, and all of it at the
-- end.
use Rattle.std.specs.Prelude.{◌≡◌, ◌≤◌, ℕ, List, [], ◌++◌, length, Option, Some, None}
use Rattle.stream_seal.specs.Start.{drawn_id}
use Rattle.esdk_base.specs.Receiver.{SinkFails, SinkTakes}
use Rattle.esdk_base.specs.Streams.{SinkState}
use Rattle.context_codec.specs.Context.{IsContext, KeyValue}
use Rattle.context_codec.specs.Parts.{keys_of}
use Rattle.edk_codec.specs.Entry.{Entry}
use Rattle.keyring_trait.specs.Materials.{AreEncMaterials, EncMaterialsValue}
use Rattle.keyring_trait.specs.Requests.{EncRequestValue}
use Rattle.message_format.specs.Judgement.{Judged, content}
use Rattle.message_format.specs.Message.{message}
use Rattle.esdk_encrypt.specs.Encrypt.{written_so_far}

-- The new message of what a judgement releases: over the whole context of the old one. The keys of
-- the pairs that were only authenticated are required of its reader.
abbrev pub resealed : Judged → List KeyValue → List KeyValue → ℕ → List ℕ → List Entry → List ℕ
    → List ℕ
resealed j whole only size key entries id = message (content j) whole (keys_of only) size key
    entries id

-- What all materials keep: the context is one and holds the required keys, and there are 1 to 64
-- entries, each of which can be one.
pub record AreSound (m : EncMaterialsValue) : Type 0 where
  pub context : IsContext m.context
  pub parts : AreEncMaterials m.context m.required m.entries

-- what is asked of the manager of the new message; no length is declared
abbrev pub request_for : List KeyValue → List KeyValue → EncRequestValue
request_for whole only = record { context = whole; required = keys_of only; declared = None }

-- What is written of a text while the old message goes on: nothing before the new one is begun,
-- then the header and all frames of the text but the last. So m frames are, m being the least
-- number for which (m + 1) * size bytes are enough for the text. The first 32 of the random bytes
-- are the message id.
abbrev pub front_of : Option EncMaterialsValue → ℕ → List ℕ → List ℕ → List ℕ
front_of None size random text = []
front_of (Some m) size random text = written_so_far m size (drawn_id random) text

-- A sink gained what the second of these fronts has beyond the first, and no put failed.
pub record GainsBeyond (old new : SinkState) (before after : List ℕ) : Type 0 where
  pub given : List ℕ
  pub between : after ≡ before ++ given
  pub taken : SinkTakes old new given

-- A put failed, and the sink gained a front of what the second has beyond the first, which is
-- something.
pub record GainsNotAll (old new : SinkState) (before after : List ℕ) : Type 0 where
  pub given : List ℕ
  pub some : 1 ≤ length given
  pub between : after ≡ before ++ given
  pub failed : SinkFails old new given
