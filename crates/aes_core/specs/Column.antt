-- What a byte adds to its column in MixColumns.
use Rattle.std.specs.Prelude.{ℕ, zero, suc}
use Rattle.cipher_spec.specs.Field.{field_product}

-- what MixColumns adds for the byte y to the byte i rows above it, around the column's end (5.1.3)
abbrev pub share : ℕ → ℕ → ℕ
share zero y = field_product 2 y
share (suc zero) y = field_product 3 y
share (suc (suc i)) y = y
