-- Big-endian numbers: the first byte is worth most. Standard: AWS Encryption SDK Specification,
-- message format, where all numbers are unsigned and big-endian.
use Rattle.std.specs.Prelude.{ℕ, List}
use Rattle.std.specs.Int.{Width, from_be_bytes, to_be_bytes}

-- the number of this width that the bytes spell
unfoldable pub from_big_endian : Width → List ℕ → ℕ
from_big_endian w bytes = from_be_bytes w bytes

-- the bytes that spell the number in this width
unfoldable pub to_big_endian : Width → ℕ → List ℕ
to_big_endian w n = to_be_bytes w n
