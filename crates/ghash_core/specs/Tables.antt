-- The tables by which a product of blocks is looked up, byte by byte of the product.
use Rattle.std.specs.Prelude.{◌≡◌, ℕ, Bool, true, false, zero, suc, ◌+◌, ◌*◌, ◌/◌, ◌%◌, ◌^◌, ◌<◌}
use Rattle.std.specs.Prelude.{List, take, drop, bit_xor, slice_index, slice_index_or, leb, ◌⊎◌}
use Rattle.std.specs.Prelude.{if◌then◌else◌}
use Rattle.cipher_spec.specs.Field.{add_if}
use Rattle.cipher_spec.specs.Ghash.{half, times}
use Rattle.ghash_core.specs.declared.planes.Plane.{Plane}
use Rattle.ghash_core.specs.declared.product.Powers.{Powers}

-- the sum of those of y, a, b and c that the four bits of n name, y by the highest
unfoldable pub chosen : ℕ → ℕ → ℕ → ℕ → ℕ → ℕ
chosen y a b c n =
    add_if (n % 2) (add_if (n / 2 % 2) (add_if (n / 4 % 2) (add_if (n / 8 % 2) 0 y) a) b) c

-- v, but 0 where the mark is 128
abbrev pub marked : ℕ → ℕ → ℕ
marked mark v = if leb 128 mark then 0 else v

-- each of 16 lanes has no mark, which is 0, or one
abbrev pub AreMarks : List ℕ → Type 0
AreMarks marks = (n : ℕ) → n < 16 → (slice_index marks n ≡ 0) ⊎ (slice_index marks n ≡ 128)

-- the product of y and the block that begins with the four bits of n, and goes on with zeros
unfoldable pub nibble_times : ℕ → ℕ → ℕ
nibble_times y n = chosen y (half y) (half (half y)) (half (half (half y))) n

-- the block moved four bits to the right, reduced
unfoldable pub sixteenth : ℕ → ℕ
sixteenth v = half (half (half (half v)))

-- the product of y and the block that begins with the byte b, and goes on with zeros
unfoldable pub byte_times : ℕ → ℕ → ℕ
byte_times y b = bit_xor (nibble_times y (b / 16)) (nibble_times (sixteenth y) (b % 16))

-- byte k of a block, counted from the last
abbrev pub block_byte : ℕ → ℕ → ℕ
block_byte x k = x / 2 ^ (8 * k) % 256

-- in the lower half byte k of what each value of the upper four bits of a byte adds to a product by
-- h, and of what each value of the lower four adds; in the upper half byte k + 8
abbrev pub IsPlane : Plane → ℕ → ℕ → Type 0
IsPlane plane h k =
    (t n : ℕ) → t < 2 → n < 16
    → (slice_index plane.upper (16 * t + n) ≡ block_byte (nibble_times h n) (8 * t + k))
    × (slice_index plane.lower (16 * t + n) ≡ block_byte (nibble_times (sixteenth h) n) (8 * t + k))

-- plane k serves byte k and byte k + 8
abbrev pub IsPlanes : List Plane → ℕ → Type 0
IsPlanes planes h = (k : ℕ) → k < 8 → (plane : Plane) → IsPlane (slice_index_or planes k plane) h k

-- the planes of h and of its next three powers
pub record IsPowers (powers : Powers) (h : ℕ) : Type 0 where
  pub small : h < 2 ^ 128
  pub first : IsPlanes powers.one h
  pub second : IsPlanes powers.two (times h h)
  pub third : IsPlanes powers.three (times h (times h h))
  pub fourth : IsPlanes powers.four (times h (times h (times h h)))

-- the hash, which may still have to be multiplied by the hash subkey
abbrev pub settled : ℕ → ℕ → Bool → ℕ
settled h hash true = times hash h
settled h hash false = hash

-- a half of a vector of 32 bytes, the lower one first
abbrev pub half_lanes : List ℕ → ℕ → List ℕ
half_lanes v t = take 16 (drop (16 * t) v)

-- the lower and the upper half of a number of 128 bits
abbrev pub word : ℕ → ℕ → ℕ
word n zero = n % 2 ^ 64
word n (suc l) = n / 2 ^ 64 % 2 ^ 64

-- lane l of two vectors of words, of which the second has the lower bits, as one number
abbrev pub lane_pair : List ℕ → List ℕ → ℕ → ℕ
lane_pair high low l = slice_index high l * 2 ^ 64 + slice_index low l

-- 256 bits, of which the last seven are 0, as a block: what stands behind the 128th comes back in
-- as x ^ 128 = 1 + x + x ^ 2 + x ^ 7 says
unfoldable pub folded : ℕ → ℕ
folded w =
    bit_xor (bit_xor (bit_xor (bit_xor (w / 2 ^ 128) (w % 2 ^ 128)) (w % 2 ^ 128 / 2))
    (w % 2 ^ 128 / 4)) (w % 2 ^ 128 / 128)
