-- The field of 256 elements (FIPS 197, 4). A byte b is the polynomial whose coefficient at x ^ i is
-- bit i of b, and the sum of two bytes is their xor (4.1).
use Rattle.std.specs.Prelude.{ℕ, zero, suc, ◌*◌, ◌%◌, ◌^◌, ◌==◌, bit_xor, unwrap_or}
use Rattle.std.specs.Int.{bit_at}
use Rattle.std.specs.List.{find, range_with_len}

-- z, and v added to it where the bit is 1
abbrev pub add_if : ℕ → ℕ → ℕ → ℕ
add_if zero z v = z
add_if (suc bit) z v = bit_xor z v

-- b times x, modulo x ^ 8 + x ^ 4 + x ^ 3 + x + 1 (4.2.1): a shift to the left, and {1b} added
-- where bit 7 was 1
abbrev pub xtime : ℕ → ℕ
xtime b = add_if (bit_at b 7) (b * 2 % 2 ^ 8) 0x1B

-- b times x ^ n: xtime again and again (4.2.1)
abbrev pub xtimes : ℕ → ℕ → ℕ
xtimes zero b = b
xtimes (suc n) b = xtime (xtimes n b)

-- b times the terms of a below x ^ n: the sum of its copies times x ^ i (4.2.1)
abbrev pub sum_of_copies : ℕ → ℕ → ℕ → ℕ
sum_of_copies zero a b = 0
sum_of_copies (suc n) a b = add_if (bit_at a n) (sum_of_copies n a b) (xtimes n b)

-- the product of a and b (4.2)
unfoldable pub field_product : ℕ → ℕ → ℕ
field_product a b = sum_of_copies 8 a b

-- the inverse of a, the byte whose product with it is {01} (4.2); 0, which has none, for 0 (5.1.1)
unfoldable pub inverse : ℕ → ℕ
inverse a = unwrap_or (find (λ b. field_product a b == 1) (range_with_len 0 256)) 0
