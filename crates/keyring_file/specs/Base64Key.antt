-- A key in base64, as a JSON keyring file has it (RFC 4648, section 4: with padding; nothing else
-- among the symbols, and no bits left over).
use Rattle.std.specs.Prelude.{ℕ, ◌==◌, List, length, Option, Some, None, Result, Ok, Err}
use Rattle.std.specs.Prelude.{if◌then◌else◌}
use Rattle.base64.specs.GeneralPurpose.{decode_of}
use Rattle.base64.specs.Engines.{standard}
use Rattle.base64.specs.declared.decode.DecodeError.{DecodeError}

abbrev pub of_32 : Result (List ℕ) DecodeError → Option (List ℕ)
of_32 (Ok bytes) = if length bytes == 32 then Some bytes else None
of_32 (Err e) = None

-- the 32 bytes that the text is the base64 of, where it is
unfoldable pub base64_key : List ℕ → Option (List ℕ)
base64_key text = of_32 (decode_of standard text)
