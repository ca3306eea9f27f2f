-- HKDF (RFC 5869), the derivation of keys from a key, over any digest with blocks of `block` bytes
-- and digests of `size` bytes, the RFC's HashLen. Section numbers are the RFC's.
use Rattle.std.specs.Prelude.{ℕ, zero, suc, List, [], ◌∷◌, ◌++◌, take}
use Rattle.std.specs.Int.{div_ceil}
use Rattle.sha2.specs.Sha256.{sha256}
use Rattle.sha2.specs.Sha512.{sha512}
use Rattle.cipher_spec.specs.Hmac.{hmac}

-- PRK = HMAC-Hash(salt, IKM) (2.2). A salt that is not given is a string of HashLen zeros; the
-- empty salt means the same, since HMAC pads its key with zeros.
unfoldable pub extract : (List ℕ → List ℕ) → ℕ → List ℕ → List ℕ → List ℕ
extract digest block salt ikm = hmac digest block salt ikm

-- T(0) is empty, and T(i) = HMAC-Hash(PRK, T(i - 1) | info | i) (2.3)
unfoldable pub output_block : (List ℕ → List ℕ) → ℕ → List ℕ → List ℕ → ℕ → List ℕ
output_block digest block prk info zero = []
output_block digest block prk info (suc i) =
    hmac digest block prk (output_block digest block prk info i ++ info ++ suc i ∷ [])

-- T(1) | T(2) | .. | T(n) (2.3)
unfoldable pub output_blocks : (List ℕ → List ℕ) → ℕ → List ℕ → List ℕ → ℕ → List ℕ
output_blocks digest block prk info zero = []
output_blocks digest block prk info (suc n) =
    output_blocks digest block prk info n ++ output_block digest block prk info (suc n)

-- the first `count` bytes of T(1) | .. | T(N), where N is count / HashLen rounded up (2.3)
unfoldable pub expand : (List ℕ → List ℕ) → ℕ → ℕ → List ℕ → List ℕ → ℕ → List ℕ
expand digest block size prk info count =
    take count (output_blocks digest block prk info (div_ceil count size))

-- extract, then expand (2.1)
unfoldable pub hkdf : (List ℕ → List ℕ) → ℕ → ℕ → List ℕ → List ℕ → List ℕ → ℕ → List ℕ
hkdf digest block size ikm salt info count =
    expand digest block size (extract digest block salt ikm) info count

-- HKDF with SHA-256, for up to 255 * 32 bytes
unfoldable pub hkdf256 : List ℕ → List ℕ → List ℕ → ℕ → List ℕ
hkdf256 ikm salt info count = hkdf sha256 64 32 ikm salt info count

-- HKDF with SHA-512, for up to 255 * 64 bytes
unfoldable pub hkdf512 : List ℕ → List ℕ → List ℕ → ℕ → List ℕ
hkdf512 ikm salt info count = hkdf sha512 128 64 ikm salt info count
