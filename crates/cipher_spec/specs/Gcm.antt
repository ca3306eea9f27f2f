-- AES-256 in Galois/Counter Mode (NIST SP 800-38D), with initialization vectors of 12 bytes and
-- tags of 16 bytes, as functions on lists of bytes. Section numbers are the standard's.
use Rattle.std.specs.Prelude.{ℕ, zero, suc, ◌+◌, ◌*◌, ◌/◌, ◌%◌, ◌^◌, List, [], ◌∷◌, ◌++◌, length}
use Rattle.std.specs.Prelude.{take, drop, map, replicate, slice_index, bit_xor, Option, Some, None}
use Rattle.std.specs.Prelude.{if◌then◌else◌}
use Rattle.std.specs.List.{range_with_len}
use Rattle.std.specs.Int.{w32, w64, w128, from_be_bytes, to_be_bytes}
use Rattle.std.specs.Str.{bytes_eq}
use Rattle.cipher_spec.specs.Aes.{aes}
use Rattle.cipher_spec.specs.Ghash.{ghash}

-- the incrementing function inc 32: the last 32 bits of a block, as a number, rise by one modulo
-- 2 ^ 32, and the others stay (6.2)
abbrev pub inc32 : List ℕ → List ℕ
inc32 block = take 12 block ++ to_be_bytes w32 ((from_be_bytes w32 (drop 12 block) + 1) % 2 ^ 32)

-- the counter block n, counted from zero: the initial counter block, incremented n times (6.5)
abbrev pub counter : List ℕ → ℕ → List ℕ
counter initial zero = initial
counter initial (suc n) = inc32 (counter initial n)

-- byte i of the enciphered counter blocks, one after another (6.5)
unfoldable pub mask : List ℕ → List ℕ → ℕ → ℕ
mask key initial i = slice_index (aes key (counter initial (i / 16))) (i % 16)

-- GCTR: each byte of a text, and the enciphered counter blocks' byte at its place added; of the
-- last block no more than the text has (6.5)
abbrev pub gctr : List ℕ → List ℕ → List ℕ → List ℕ
gctr key initial text =
    map (λ i. bit_xor (slice_index text i) (mask key initial i)) (range_with_len 0 (length text))

-- block k of a text, with zeros for the bytes past the text's end
abbrev pub block_at : List ℕ → ℕ → ℕ
block_at text k = from_be_bytes w128 (map (λ i. slice_index text (16 * k + i))
    (range_with_len 0 16))

-- a text in blocks, filled up with zeros to whole ones (7.1, step 4)
abbrev pub blocks : List ℕ → List ℕ
blocks text = map (block_at text) (range_with_len 0 ((length text + 15) / 16))

-- the lengths in bits of the associated data and of the ciphertext, 64 bits each (7.1, step 5)
abbrev pub lengths : List ℕ → List ℕ → ℕ
lengths aad cipher =
    from_be_bytes w128 (to_be_bytes w64 (length aad * 8) ++ to_be_bytes w64 (length cipher * 8))

-- H, the hash subkey: the enciphered block of zeros (7.1, step 1)
abbrev pub hash_key : List ℕ → ℕ
hash_key key = from_be_bytes w128 (aes key (replicate 16 0))

-- J 0, the pre-counter block of an initialization vector of 12 bytes (7.1, step 2)
abbrev pub pre_counter : List ℕ → List ℕ
pre_counter iv = iv ++ to_be_bytes w32 1

-- the ciphertext of a text, and likewise the text of a ciphertext (7.1, step 3; 7.2, step 4)
unfoldable pub cipher_of : List ℕ → List ℕ → List ℕ → List ℕ
cipher_of key iv text = gctr key (inc32 (pre_counter iv)) text

-- the authentication tag of associated data and a ciphertext (7.1, steps 4 to 6; 7.2, steps 5 to 7)
unfoldable pub tag_of : List ℕ → List ℕ → List ℕ → List ℕ → List ℕ
tag_of key iv aad cipher =
    gctr key (pre_counter iv) (to_be_bytes w128 (ghash (hash_key key)
    (blocks aad ++ blocks cipher ++ lengths aad cipher ∷ [])))

-- authenticated encryption: the ciphertext and the tag (7.1)
unfoldable pub sealed : List ℕ → List ℕ → List ℕ → List ℕ → List ℕ × List ℕ
sealed key iv aad text = (cipher_of key iv text, tag_of key iv aad (cipher_of key iv text))

-- authenticated decryption: the text where the tag is the one computed, and else nothing (7.2)
unfoldable pub opened : List ℕ → List ℕ → List ℕ → List ℕ → List ℕ → Option (List ℕ)
opened key iv aad cipher tag =
    if bytes_eq (tag_of key iv aad cipher) tag then Some (cipher_of key iv cipher) else None
