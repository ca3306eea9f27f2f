-- A key line: the namespace of a raw AES key, one space, its name, one space, the key in 64
-- hexadecimal digits of either case, and at most one line feed at the end. The form and its
-- refusals are this library's; what namespace and name mean: AWS Encryption SDK Specification, "Raw
-- AES Keyring", Initialization.
use Rattle.std.specs.Prelude.{ℕ, Bool, false, ◌&&◌, ◌==◌, not, nat_le, List, [], ◌∷◌, length}
use Rattle.std.specs.Prelude.{Result, Ok, Err, if◌then◌else◌}
use Rattle.std.specs.Io.BufRead.{strip_last}
use Rattle.std.specs.List.{slice_split}
use Rattle.std.specs.Str.{bytes_eq, is_utf8}
use Rattle.hex.specs.Hex.{decode_sized}
use Rattle.hex.specs.declared.error.FromHexError.{FromHexError}
use Rattle.esdk_fields.specs.declared.refusals.FileRefusal.{FileRefusal}
use Rattle.esdk_fields.specs.declared.refusals.FileRefusal.TheVariants.{BadShape, BadKey}
use Rattle.esdk_fields.specs.declared.refusals.FileRefusal.TheVariants.{ReservedNamespace}
use Rattle.keyring_trait.specs.Wrapping.{WrapKeyValue}
use Rattle.raw_aes_keyring.specs.RawKey.{reserved_namespace}

-- what stands between the spaces
abbrev pub space_parts : List ℕ → List (List ℕ)
space_parts line = slice_split (λ b. b == 32) line

-- the parts of the line, which ends before a line feed that stands last
abbrev pub parts_in : List ℕ → List (List ℕ)
parts_in bytes = space_parts (strip_last 10 bytes)

-- a namespace or a name has 1 to 1,024 bytes
abbrev pub is_word : List ℕ → Bool
is_word part = not (length part == 0) && nat_le (length part) 1024

-- the key, which isn't retired, where the digits are 64; else K3
abbrev pub key_with : List ℕ → List ℕ → Result (List ℕ) FromHexError
    → Result WrapKeyValue FileRefusal
key_with namespace name (Ok key) =
    Ok (record { namespace = namespace; name = name; key = key; retired = false })
key_with namespace name (Err e) = Err (BadKey 1)

-- K2, where namespace or name is empty or too long; then K4, where the namespace is the reserved
-- one; then K3
unfoldable pub key_of_parts : List ℕ → List ℕ → List ℕ → Result WrapKeyValue FileRefusal
key_of_parts namespace name digits =
    if not (is_word namespace && is_word name) then Err (BadShape 1)
    else if bytes_eq namespace reserved_namespace then Err ReservedNamespace
    else key_with namespace name (decode_sized digits 32)

-- K2, where there are not exactly three parts
abbrev pub key_in_parts : List (List ℕ) → Result WrapKeyValue FileRefusal
key_in_parts (namespace ∷ name ∷ digits ∷ []) = key_of_parts namespace name digits
key_in_parts others = Err (BadShape 1)

-- K2, where the bytes are not UTF-8
unfoldable pub key_line : List ℕ → Result WrapKeyValue FileRefusal
key_line bytes = if is_utf8 bytes then key_in_parts (parts_in bytes) else Err (BadShape 1)
