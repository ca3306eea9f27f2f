-- Bytes behind their length. Standard: AWS Encryption SDK Specification, message header, where a
-- length of two bytes stands before each field of variable length.
use Rattle.std.specs.Prelude.{ℕ, List, ◌++◌, length}
use Rattle.std.specs.Int.{w16}
use Rattle.esdk_fields.specs.Numbers.{to_big_endian}
use Rattle.esdk_fields.specs.Reading.{FieldReader, ◌>>=◌, number, bytes}

-- two bytes of length, and the bytes
unfoldable pub sized : List ℕ → List ℕ
sized bytes = to_big_endian w16 (length bytes) ++ bytes

-- two bytes of length, and that many bytes
unfoldable pub sized_bytes : FieldReader (List ℕ)
sized_bytes = do
  n ← number w16
  bytes n
