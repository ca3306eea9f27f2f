-- Where the steps of a round take the bytes of a state from (FIPS 197, 5.1), and where planes have
-- them. Byte r + 4 * c of a state is in row r and column c.
use Rattle.std.specs.Prelude.{ℕ, ◌+◌, ◌*◌, ◌/◌, ◌%◌, List, slice_index}
use Rattle.std.specs.Int.{bit_at}

-- ShiftRows: the byte that comes to j (5.1.2)
abbrev pub shifted : ℕ → ℕ
shifted j = (j + 4 * (j % 4)) % 16

-- the byte n rows below j in its column, around the column's end
abbrev pub below : ℕ → ℕ → ℕ
below n j = j / 4 * 4 + (j + n) % 4

-- the lane of a vector of 16 that byte j of each block, of eight blocks, has in a plane: row by row
abbrev pub lane : ℕ → ℕ
lane j = 4 * (j % 4) + j / 4

-- the bit of byte j of block b in a vector
abbrev pub lane_bit : List ℕ → ℕ → ℕ → ℕ
lane_bit v j b = bit_at (slice_index v (lane j)) b

-- the lane of a vector of 32 that byte j of block b, of sixteen blocks, has in a plane: the first
-- eight blocks are in the lower half
abbrev pub wide_lane : ℕ → ℕ → ℕ
wide_lane j b = 16 * (b % 16 / 8) + lane j

-- the bit of byte j of block b in a vector of 32
abbrev pub wide_bit : List ℕ → ℕ → ℕ → ℕ
wide_bit v j b = bit_at (slice_index v (wide_lane j b)) (b % 8)
