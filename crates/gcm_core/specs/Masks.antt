-- Masks in a row, added to a text.
use Rattle.std.specs.Prelude.{ℕ, ◌/◌, ◌%◌, List, [], length, map, slice_index, slice_index_or}
use Rattle.std.specs.Prelude.{bit_xor}
use Rattle.std.specs.List.{range_with_len}

-- each byte of a text, and the byte at its place among masks of 16 bytes added
abbrev pub masked : List ℕ → List (List ℕ) → List ℕ
masked text masks =
    map (λ i. bit_xor (slice_index text i)
    (slice_index (slice_index_or masks (i / 16) []) (i % 16))) (range_with_len 0 (length text))
