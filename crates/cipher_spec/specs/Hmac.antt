-- HMAC (RFC 2104), the keyed hash, over any digest. A digest is a function from the bytes of a
-- message to the bytes of its digest; `block` is the length in bytes of the blocks that it hashes,
-- the RFC's B. Section numbers are the RFC's.
use Rattle.std.specs.Prelude.{ℕ, ◌-◌, List, ◌++◌, length, map, replicate, bit_xor, nat_lt}
use Rattle.std.specs.Prelude.{if◌then◌else◌}
use Rattle.sha2.specs.Sha256.{sha256}
use Rattle.sha2.specs.Sha512.{sha512}

-- the key with zeros appended to it, up to the length of a block (2, step 1)
unfoldable pub zero_padded : ℕ → List ℕ → List ℕ
zero_padded block key = key ++ replicate (block - length key) 0

-- the key as one block: a key longer than a block is hashed first (2)
unfoldable pub key_block : (List ℕ → List ℕ) → ℕ → List ℕ → List ℕ
key_block digest block key =
    zero_padded block (if nat_lt block (length key) then digest key else key)

-- a block with each byte added, by exclusive or, to the byte `pad` (2, steps 2 and 5)
unfoldable pub pad_added : ℕ → List ℕ → List ℕ
pad_added pad key = map (λ b. bit_xor b pad) key

-- H(K XOR opad, H(K XOR ipad, text)) for a key K of one block, where ipad is the byte 0x36 and opad
-- the byte 0x5C, each as often as a block has bytes (2)
unfoldable pub keyed_digest : (List ℕ → List ℕ) → List ℕ → List ℕ → List ℕ
keyed_digest digest k text = digest (pad_added 0x5C k ++ digest (pad_added 0x36 k ++ text))

-- HMAC of a text under a key of any length (2)
unfoldable pub hmac : (List ℕ → List ℕ) → ℕ → List ℕ → List ℕ → List ℕ
hmac digest block key text = keyed_digest digest (key_block digest block key) text

-- HMAC with SHA-256, whose blocks have 64 bytes
unfoldable pub hmac256 : List ℕ → List ℕ → List ℕ
hmac256 key text = hmac sha256 64 key text

-- HMAC with SHA-512, whose blocks have 128 bytes
unfoldable pub hmac512 : List ℕ → List ℕ → List ℕ
hmac512 key text = hmac sha512 128 key text
