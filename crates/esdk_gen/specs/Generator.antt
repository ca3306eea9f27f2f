-- The message that is made of a seed's bytes, and the line that is told of it.
use Rattle.std.specs.Prelude.{ℕ, List, [], ◌∷◌, ◌++◌, length, take, drop, false, codes, decimal}
use Rattle.hex.specs.Hex.{encode_lower}
use Rattle.sha2.specs.Sha512.{sha512}
use Rattle.context_codec.specs.Context.{KeyValue}
use Rattle.keyring_trait.specs.declared.served.Served.TheVariants.{Direct}
use Rattle.keyring_trait.specs.Materials.{EncMaterialsValue}
use Rattle.keyring_trait.specs.Wrapping.{WrapKeyValue, made}
use Rattle.body_format.specs.Written.{frame_count}
use Rattle.stream_seal.specs.Start.{message_of}
use Rattle.esdk_gen.specs.Bytes.{seed_part}

-- ---- the message

-- the wrapping key of these bytes
abbrev pub generator_key : List ℕ → WrapKeyValue
generator_key key =
    record { namespace = codes "gen"; name = codes "gen"; key = key; retired = false }

abbrev pub gen_context : List KeyValue
gen_context = (codes "purpose", codes "gen") ∷ []

-- a data key with its wrap under the wrapping key, by this IV; no key of the context is required of
-- the reader
abbrev pub generator_materials : List ℕ → List ℕ → List ℕ → EncMaterialsValue
generator_materials key data_key iv = record {
  context = gen_context;
  required = [];
  key = data_key;
  entries = made (generator_key key ∷ []) gen_context data_key (iv ∷ []);
  served = Direct;
}

-- The message of a text: among the random bytes stand 32 of message id, 32 of data key, and 12 of
-- IV.
unfoldable pub message_with : List ℕ → List ℕ → List ℕ → List ℕ
message_with key random text = message_of
    (generator_materials key (take 32 (drop 32 random)) (drop 64 random)) 4096 (take 32 random) text

-- Of the bytes of a seed the first 32 are the wrapping key; then come the random bytes, and then
-- the text.
unfoldable pub gen_message : ℕ → ℕ → List ℕ
gen_message seed size =
    message_with (seed_part seed 0 32) (seed_part seed 32 76) (seed_part seed 108 size)

-- ---- the line

-- the line of a text of so many bytes, of its message, and of how many bytes were opened of that
unfoldable pub generator_line : ℕ → List ℕ → ℕ → List ℕ
generator_line size message opened =
    codes "size=" ++ decimal size
    ++ codes " frames=" ++ decimal (frame_count size 4096)
    ++ codes " message=" ++ decimal (length message)
    ++ codes " opened=" ++ decimal opened
    ++ codes " sha512=" ++ encode_lower (sha512 message)
    ++ 10 ∷ []

-- what a run tells: as many bytes were opened as were sealed
unfoldable pub gen_line : ℕ → ℕ → List ℕ
gen_line seed size = generator_line size (gen_message seed size) size
