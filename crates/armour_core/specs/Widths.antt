-- Bytes as wider numbers, the lowest byte first.
use Rattle.std.specs.Prelude.{ℕ, ◌+◌, ◌*◌, List, slice_index}

-- number j of two bytes
abbrev pub two_bytes : List ℕ → ℕ → ℕ
two_bytes bytes j = slice_index bytes (2 * j) + 256 * slice_index bytes (2 * j + 1)

-- number j of four bytes
abbrev pub four_bytes : List ℕ → ℕ → ℕ
four_bytes bytes j =
    slice_index bytes (4 * j)
    + 256 * (slice_index bytes (4 * j + 1)
    + 256 * (slice_index bytes (4 * j + 2) + 256 * slice_index bytes (4 * j + 3)))
