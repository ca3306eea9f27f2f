-- Bits, bytes and blocks of planes.
use Rattle.std.specs.Prelude.{ℕ, ◌+◌, ◌*◌, ◌<◌, List, bit_xor}
use Rattle.std.specs.Int.{bit_at}
use Rattle.std.proofs.lemmas.Nat.Bits.{bit_at-lt}
use Rattle.cipher_spec.specs.Field.{field_product}
use Rattle.cipher_spec.specs.Aes.{state_of}
use Rattle.plane_core.specs.declared.planes.Planes.{Planes}

-- the byte with these bits, the lowest first
abbrev pub number_of : ℕ → ℕ → ℕ → ℕ → ℕ → ℕ → ℕ → ℕ → ℕ
number_of b0 b1 b2 b3 b4 b5 b6 b7 =
    b0 + 2 * b1 + 4 * b2 + 8 * b3 + 16 * b4 + 32 * b5 + 64 * b6 + 128 * b7

-- byte j of block b of planes, whose bits `bit` gives
unfoldable pub byte_of : {P : Type 0} → (P → ℕ → ℕ → ℕ) → Planes P → ℕ → ℕ → ℕ
byte_of bit x j b = number_of (bit x.b0 j b) (bit x.b1 j b) (bit x.b2 j b) (bit x.b3 j b)
    (bit x.b4 j b) (bit x.b5 j b) (bit x.b6 j b) (bit x.b7 j b)

-- block b
unfoldable pub block : {P : Type 0} → (P → ℕ → ℕ → ℕ) → Planes P → ℕ → List ℕ
block bit x b = state_of (λ r c. byte_of bit x (r + 4 * c) b)

-- a byte of MixColumns, from the column's bytes from its own row on (FIPS 197, 5.1.3)
abbrev pub mixed_byte : ℕ → ℕ → ℕ → ℕ → ℕ
mixed_byte a b c d = bit_xor (bit_xor (bit_xor (field_product 2 a) (field_product 3 b)) c) d

pub bit_is_small : (n i : ℕ) → bit_at n i < 2
bit_is_small n i = bit_at-lt n i
