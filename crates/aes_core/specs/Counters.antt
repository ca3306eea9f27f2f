-- Counter blocks (NIST SP 800-38D, 6.5): an initialization vector of 12 bytes, and a count of 32
-- bits. Those whose counts differ in the last byte alone are a page. They have 15 bytes in common,
-- and so most of the first two rounds of AES. Section numbers are those of FIPS 197.
use Rattle.std.specs.Prelude.{ℕ, ◌+◌, ◌-◌, ◌*◌, ◌/◌, ◌%◌, ◌^◌, ◌<◌, ◌==◌, ◌≡◌, List, [], ◌∷◌, ◌++◌}
use Rattle.std.specs.Prelude.{bit_xor, slice_index, slice_index_or, if◌then◌else◌}
use Rattle.std.specs.Int.{bit_at, bytes_high_first}
use Rattle.cipher_spec.specs.Aes.{at, round, round_keys, rounds, state_of, sub_byte, word_at}
use Rattle.plane_core.specs.declared.planes.Planes.{Planes}
use Rattle.plane_core.specs.Bits.{block, number_of}
use Rattle.plane_core.specs.Places.{lane_bit}
use Rattle.aes_core.specs.Column.{share}
use Rattle.aes_core.specs.declared.page.CounterPage.{CounterPage}

-- ---- round 1

-- byte 15 of the first round key, which is added to the last byte of a count
abbrev pub last_key_byte : List (List ℕ) → ℕ
last_key_byte schedule = at (word_at schedule 0) 3 3

-- the 15 bytes that the counter blocks of a page have in common; a page is the count without its
-- last byte
abbrev pub page_bytes : List ℕ → ℕ → List ℕ
page_bytes iv page = iv ++ bytes_high_first 3 page

-- the state after round 1 of the block of a page for which the S-box sees 0 in byte 15 (5.1)
unfoldable pub page_state : List (List ℕ) → List ℕ → ℕ → List ℕ
page_state schedule iv page =
    rounds schedule (page_bytes iv page ++ last_key_byte schedule ∷ []) 1

-- by what the S-box's image of the last byte n of a count differs from that of 0 (5.1.1), where k
-- is the byte of the round key
unfoldable pub image : ℕ → ℕ → ℕ
image k n = bit_xor (sub_byte (bit_xor n k)) 0x63

-- MixColumns on a column that has y in row 3, and zeros above it: the byte in row r (5.1.3)
abbrev pub column_byte : ℕ → ℕ → ℕ
column_byte r y = share (3 - r) y

-- by what the state after round 1 of the counter block with the last byte n differs from the
-- page's: ShiftRows moved the byte into column 0 (5.1.2)
unfoldable pub round_difference : ℕ → ℕ → List ℕ
round_difference k n = state_of (λ r c. if c == 0 then column_byte r (image k n) else 0)

-- ---- round 2

-- by what the S-box's image of the byte in row r of column 0 differs from that of 0 (5.1.1), in
-- the block with the last byte n, where s is its page's state after round 1
unfoldable pub second_image : ℕ → List ℕ → ℕ → ℕ → ℕ
second_image k s n r = bit_xor (sub_byte (bit_xor (at s r 0) (column_byte r (image k n)))) 0x63

-- a state with zeros in column 0
abbrev pub without_column : List ℕ → List ℕ
without_column s = state_of (λ r c. if c == 0 then 0 else at s r c)

-- the state after round 2 of a block of a page for which its S-box sees zeros in column 0 (5.1)
unfoldable pub page_rest : List (List ℕ) → List ℕ → ℕ → List ℕ
page_rest schedule iv page =
    round (without_column (page_state schedule iv page)) (word_at schedule 2)

-- the row of column 0 that ShiftRows moves to column c (5.1.2)
abbrev pub row_for : ℕ → ℕ
row_for c = (4 - c) % 4

-- ShiftRows and MixColumns on a state that has f r in row r of column 0, and zeros elsewhere: by
-- what two states differ after round 2 if they differ so after SubBytes (5.1.2, 5.1.3)
abbrev pub spread : (ℕ → ℕ) → List ℕ
spread f = state_of (λ r c. share ((row_for c + 4 - r) % 4) (f (row_for c)))

-- ---- in planes

-- the byte of block b that stands in lane p
abbrev pub lane_byte : Planes (List ℕ) → ℕ → ℕ → ℕ
lane_byte x p b = number_of (bit_at (slice_index x.b0 p) b) (bit_at (slice_index x.b1 p) b)
    (bit_at (slice_index x.b2 p) b) (bit_at (slice_index x.b3 p) b)
    (bit_at (slice_index x.b4 p) b) (bit_at (slice_index x.b5 p) b)
    (bit_at (slice_index x.b6 p) b) (bit_at (slice_index x.b7 p) b)

-- the last byte of the count of block b in group c of quad q: a quad is four groups, a group eight
-- counts in a row, and a page's first group begins at 2
abbrev pub last_byte : ℕ → ℕ → ℕ → ℕ
last_byte q c b = (8 * (4 * q + c) + b + 2) % 2 ^ 8

-- a table has in block b of quad q, column by column, what the counts of its groups add
pub record HasColumns (table : List (Planes (List ℕ))) (k : ℕ) : Type 0 where
  pub is_column : (q b : ℕ) → q < 8 → b < 8 → (d : Planes (List ℕ))
      → block lane_bit (slice_index_or table q d) b
      ≡ state_of (λ r c. column_byte r (image k (last_byte q c b)))

-- column 0 of a state four times side by side
abbrev pub four_times : List ℕ → List ℕ
four_times s = state_of (λ r c. at s r 0)

-- the images in round 2 of the groups of quad q, column by column, in block b, where s is their
-- page's state after round 1
abbrev pub quad_images : ℕ → List ℕ → ℕ → ℕ → List ℕ
quad_images k s q b = state_of (λ r c. second_image k s (last_byte q c b) r)

-- a page of an initialization vector under round keys, with the images of one of its quads
pub record HasPage (schedule : List (List ℕ)) (iv : List ℕ) (page : CounterPage) : Type 0 where
  pub is_number : page.quad / 8 ≡ page.number
  pub is_column : (b : ℕ) → b < 8
      → block lane_bit page.column b ≡ four_times (page_state schedule iv page.number)
  pub is_rest : (b : ℕ) → b < 8 → block lane_bit page.rest b ≡ page_rest schedule iv page.number
  pub is_images : (b : ℕ) → b < 8 → block lane_bit page.images b
      ≡ quad_images (last_key_byte schedule) (page_state schedule iv page.number)
      (page.quad % 8) b

-- the same under a key
abbrev pub IsPage : List ℕ → List ℕ → CounterPage → Type 0
IsPage key iv page = HasPage (round_keys key) iv page
