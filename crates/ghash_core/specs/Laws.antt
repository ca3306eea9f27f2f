-- What the laws of this crate say of the product of blocks (NIST SP 800-38D, section 6.3).
use Rattle.std.specs.Prelude.{◌≡◌, ℕ, ◌^◌, ◌<◌, [], ◌∷◌, bit_xor}
use Rattle.cipher_spec.specs.Ghash.{times, ghash_from}

-- The product distributes over the sum in its first factor, and in its second.
abbrev pub DistributesLeft : Type 0
DistributesLeft = (x y z : ℕ) → times (bit_xor x y) z ≡ bit_xor (times x z) (times y z)

abbrev pub DistributesRight : Type 0
DistributesRight = (x y z : ℕ) → times x (bit_xor y z) ≡ bit_xor (times x y) (times x z)

-- Its factors may be grouped in either way.
abbrev pub Associates : Type 0
Associates = (x y z : ℕ) → y < 2 ^ 128 → z < 2 ^ 128 → times (times x y) z ≡ times x (times y z)

-- They may be exchanged.
abbrev pub Commutes : Type 0
Commutes = (x y : ℕ) → x < 2 ^ 128 → y < 2 ^ 128 → times x y ≡ times y x

-- The block with bit 0 alone changes nothing.
abbrev pub HasOne : Type 0
HasOne = (x : ℕ) → x < 2 ^ 128 → times x (2 ^ 127) ≡ x

-- The product of two blocks is a block.
abbrev pub GivesBlocks : Type 0
GivesBlocks = (x y : ℕ) → y < 2 ^ 128 → times x y < 2 ^ 128

-- To hash four blocks is to multiply each by a power of the hash subkey of its own, and to add up:
-- the four products don't wait for one another.
abbrev pub HashesByPowers : Type 0
HashesByPowers = (h y a b c d : ℕ) → h < 2 ^ 128
    → ghash_from h y (a ∷ b ∷ c ∷ d ∷ [])
    ≡ bit_xor (bit_xor (bit_xor (times (bit_xor y a) (times h (times h (times h h))))
    (times b (times h (times h h)))) (times c (times h h))) (times d h)
