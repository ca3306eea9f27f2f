-- The S-box by tables that are looked up at groups of four bits.
use Rattle.std.specs.Prelude.{◌/◌, ◌%◌, ◌<◌, ◌||◌, ℕ, List, T, bit_xor, leb, ltb, slice_index}
use Rattle.std.specs.Prelude.{if◌then◌else◌}
use Rattle.cipher_spec.specs.Aes.{at, state_of}
use Rattle.aes_core.specs.declared.sbox.TheConstants.{BACK_FROM_LOWER, BACK_FROM_UPPER, INVERSES}
use Rattle.aes_core.specs.declared.sbox.TheConstants.{QUOTIENTS}

-- what a shuffle looks up in a table of 16 bytes: nothing, which is 0, from 128 on
abbrev pub table_entry : List ℕ → ℕ → ℕ
table_entry table n = if leb 0x80 n then 0 else slice_index table n

-- each of 16 lanes has the number of an entry, or 128 or more
abbrev pub AreEntries : List ℕ → Type 0
AreEntries at = (p : ℕ) → p < 16 → T (leb 0x80 (slice_index at p) || ltb (slice_index at p) 16)

-- a byte of the other basis in that of the standard
unfoldable pub out_of_basis : ℕ → ℕ
out_of_basis b =
    bit_xor (table_entry BACK_FROM_LOWER (b % 16)) (table_entry BACK_FROM_UPPER (b / 16 % 16))

-- the state whose bytes stand in the other basis
unfoldable pub state_in : List ℕ → List ℕ
state_in v = state_of (λ r c. out_of_basis (at v r c))

-- the quotients of a byte that is in the other basis
unfoldable pub first_quotient : ℕ → ℕ
first_quotient b =
    bit_xor (table_entry INVERSES (bit_xor (table_entry INVERSES (b / 16))
    (table_entry QUOTIENTS (b % 16))))
    (bit_xor (b / 16) (b % 16))

unfoldable pub second_quotient : ℕ → ℕ
second_quotient b =
    bit_xor (table_entry INVERSES (bit_xor (table_entry INVERSES (bit_xor (b / 16) (b % 16)))
    (table_entry QUOTIENTS (b % 16)))) (b / 16)
