-- The key provider information of a raw AES keyring. Standard: AWS Encryption SDK, raw AES keyring,
-- "Key Provider Information".
use Rattle.std.specs.Prelude.{ℕ, List, ◌++◌}
use Rattle.std.specs.Int.{w32}
use Rattle.esdk_fields.specs.Numbers.{to_big_endian}

-- the key's name, the length of the authentication tag in bits, the length of the IV in bytes, the
-- IV
unfoldable pub raw_info : List ℕ → List ℕ → List ℕ
raw_info name iv = name ++ to_big_endian w32 128 ++ to_big_endian w32 12 ++ iv
