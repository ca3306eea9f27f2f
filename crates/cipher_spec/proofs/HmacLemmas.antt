-- The length and the bytes of an HMAC, over any digest whose length and bytes are known.
use Rattle.std.proofs.Common.{false, nat_lt, ◌≤◌, ◌≡◌, ◌<◌, ◌/◌, ◌^◌, ◌-◌, ℕ, zero, suc, List, [], ◌++◌, length, replicate, ap, sym, ◌∙◌, arith, lit<}
use Rattle.std.specs.Prelude.{All, slice_index}
use Rattle.std.specs.Int.{bytes_high_first, byte_at, to_be_bytes, w32, w64}
use Rattle.std.proofs.Math.Nat.{mod-lt}
use Rattle.std.proofs.lemmas.List.{length-replicate, replicate-append-replicate}
use Rattle.std.proofs.lemmas.List.Elements.{All-nil, All-cons, All-append}
use Rattle.std.proofs.lemmas.Bool.Decides.{nat_tests}
use Rattle.sha2.specs.Sha256 as S256
use Rattle.sha2.specs.Sha512 as S512
use Rattle.sha2.specs.Sha256.{sha256}
use Rattle.sha2.specs.Sha512.{sha512}
use Rattle.sha2.proofs.Facts256.{length-sha256}
use Rattle.sha2.proofs.Facts512.{length-sha512}
use Rattle.cipher_spec.specs.Hmac.{hmac, hmac256, hmac512, key_block, keyed_digest, zero_padded}

-- a byte is below 256
abbrev pub IsByte : ℕ → Type 0
IsByte b = b < 256

byte_at-lt : (k n : ℕ) → byte_at k n < 256
byte_at-lt zero n = mod-lt n (lit< tt)
byte_at-lt (suc k) n = mod-lt (n / 256 ^ suc k) (lit< tt)

bytes-bytes_high_first : (k n : ℕ) → All IsByte (bytes_high_first k n)
bytes-bytes_high_first zero n = All-nil IsByte
bytes-bytes_high_first (suc k) n =
    All-cons IsByte (byte_at k n) (bytes_high_first k n) (byte_at-lt k n) (bytes-bytes_high_first k n)

bytes-words256 : (h : List ℕ) (n : ℕ) → All IsByte (S256.digest_bytes h n)
unfolding S256.digest_bytes
bytes-words256 h zero = All-nil IsByte
bytes-words256 h (suc n) =
    All-append IsByte (S256.digest_bytes h n) (to_be_bytes w32 (slice_index h n))
    (bytes-words256 h n) (bytes-bytes_high_first 4 (slice_index h n))

bytes-words512 : (h : List ℕ) (n : ℕ) → All IsByte (S512.digest_bytes h n)
unfolding S512.digest_bytes
bytes-words512 h zero = All-nil IsByte
bytes-words512 h (suc n) =
    All-append IsByte (S512.digest_bytes h n) (to_be_bytes w64 (slice_index h n))
    (bytes-words512 h n) (bytes-bytes_high_first 8 (slice_index h n))

-- a digest of SHA-256 is made of bytes
pub bytes-sha256 : (m : List ℕ) → All IsByte (sha256 m)
unfolding S256.sha256
bytes-sha256 m = bytes-words256 _ 8

-- and one of SHA-512
pub bytes-sha512 : (m : List ℕ) → All IsByte (sha512 m)
unfolding S512.sha512
bytes-sha512 m = bytes-words512 _ 8

-- an HMAC is as long as a digest
pub length-keyed_digest : (digest : List ℕ → List ℕ) (size : ℕ) → ((m : List ℕ) → length (digest m) ≡ size)
    → (k text : List ℕ) → length (keyed_digest digest k text) ≡ size
unfolding keyed_digest
length-keyed_digest digest size long k text = long _

pub length-hmac : (digest : List ℕ → List ℕ) (size : ℕ) → ((m : List ℕ) → length (digest m) ≡ size)
    → (block : ℕ) (key text : List ℕ) → length (hmac digest block key text) ≡ size
unfolding hmac
length-hmac digest size long block key text = length-keyed_digest digest size long _ text

-- an HMAC is made of bytes where digests are
pub bytes-hmac : (digest : List ℕ → List ℕ) → ((m : List ℕ) → All IsByte (digest m))
    → (block : ℕ) (key text : List ℕ) → All IsByte (hmac digest block key text)
unfolding hmac keyed_digest
bytes-hmac digest bytes block key text = bytes _

pub length-hmac256 : (key text : List ℕ) → length (hmac256 key text) ≡ 32
unfolding hmac256
length-hmac256 key text = length-hmac sha256 32 length-sha256 64 key text

pub bytes-hmac256 : (key text : List ℕ) → All IsByte (hmac256 key text)
unfolding hmac256
bytes-hmac256 key text = bytes-hmac sha256 bytes-sha256 64 key text

pub length-hmac512 : (key text : List ℕ) → length (hmac512 key text) ≡ 64
unfolding hmac512
length-hmac512 key text = length-hmac sha512 64 length-sha512 128 key text

pub bytes-hmac512 : (key text : List ℕ) → All IsByte (hmac512 key text)
unfolding hmac512
bytes-hmac512 key text = bytes-hmac sha512 bytes-sha512 128 key text

-- zeros at the end of a key change nothing, as long as the key is no longer than a block
pub zeros_ended : (digest : List ℕ → List ℕ) (block n : ℕ) → n ≤ block
    → key_block digest block [] ≡ key_block digest block (replicate n 0)
unfolding key_block zero_padded
zeros_ended digest block n h =
    let zeros : List ℕ = replicate n 0 in
    let long : length zeros ≡ n = length-replicate n 0 in
    let short : nat_lt block (length zeros) ≡ false = grind (arith, nat_tests, long) in
    let none : nat_lt block 0 ≡ false = grind (arith, nat_tests) in
    let ends : zeros ++ replicate (block - length zeros) 0 ≡ replicate (block - 0) 0 =
    rw long (replicate-append-replicate n (block - n) 0 ∙ ap (λ k. replicate k 0) (omega arith)) in
    rw (none, short) (sym ends)

pub hmac-zeros : (digest : List ℕ → List ℕ) (block n : ℕ) → n ≤ block → (text : List ℕ)
    → hmac digest block [] text ≡ hmac digest block (replicate n 0) text
unfolding hmac
hmac-zeros digest block n h text = ap (λ k. keyed_digest digest k text) (zeros_ended digest block n h)
