-- The hash of Galois/Counter Mode (NIST SP 800-38D). A block is 128 bits, as a number below 2 ^
-- 128: the standard's bit 0 is the highest bit of the number, and the sum of two blocks is their
-- xor. Section numbers are the standard's.
use Rattle.std.specs.Prelude.{ℕ, zero, suc, ◌-◌, ◌*◌, ◌/◌, ◌%◌, ◌^◌, List, [], ◌∷◌, bit_xor}
use Rattle.std.specs.Int.{bit_at}
use Rattle.cipher_spec.specs.Field.{add_if}

-- R, the bits 11100001 and then 120 zeros (6.3)
abbrev pub reduction : ℕ
reduction = 225 * 2 ^ 120

-- the block after v among V 0, V 1, ..: v moved one bit to the right, and R added where the bit
-- that falls out is 1 (6.3, step 3)
abbrev pub half : ℕ → ℕ
half v = add_if (v % 2) (v / 2) reduction

-- V n, where V 0 is v (6.3)
abbrev pub halves : ℕ → ℕ → ℕ
halves zero v = v
halves (suc n) v = half (halves n v)

-- Z n: over the bits 0 to n - 1 of x, the sum of V i for each bit i that is 1, where V 0 is y (6.3)
abbrev pub times_bits : ℕ → ℕ → ℕ → ℕ
times_bits zero x y = 0
times_bits (suc n) x y = add_if (bit_at x (127 - n)) (times_bits n x y) (halves n y)

-- the product of two blocks: Z 128 (6.3)
unfoldable pub times : ℕ → ℕ → ℕ
times x y = times_bits 128 x y

-- the steps of GHASH from a block y on: each block is added, and the sum multiplied by the hash
-- subkey h (6.4, step 3)
abbrev pub ghash_from : ℕ → ℕ → List ℕ → ℕ
ghash_from h y [] = y
ghash_from h y (x ∷ xs) = ghash_from h (times (bit_xor y x) h) xs

-- GHASH under the hash subkey h, from the block of zeros on (6.4)
abbrev pub ghash : ℕ → List ℕ → ℕ
ghash h blocks = ghash_from h 0 blocks
