-- Units as they are written. Standard: AWS Encryption SDK Specification, message body, "Regular
-- Frame", "Final Frame", "Single Block".
use Rattle.std.specs.Prelude.{ℕ, List, ◌++◌, length}
use Rattle.std.specs.Int.{w32, w64}
use Rattle.esdk_fields.specs.Numbers.{to_big_endian}
use Rattle.cipher_spec.specs.Gcm.{sealed}
use Rattle.frame_codec.specs.declared.kinds.UnitKind.{UnitKind}
use Rattle.frame_codec.specs.declared.kinds.UnitKind.TheVariants.{Regular, Final, Single}
use Rattle.frame_codec.specs.UnitAad.{unit_aad, iv_of}
use Rattle.frame_codec.specs.UnitHead.{final_mark}
use Rattle.frame_codec.specs.Unit.{Under}

-- a unit's content, enciphered under a derived key and a message id, and its tag
unfoldable pub sealed_unit : List ℕ → List ℕ → UnitKind → ℕ → List ℕ → List ℕ → List ℕ
sealed_unit key id kind number iv text =
    let s = sealed key iv (unit_aad id kind number (length text)) text in s.0 ++ s.1

-- before a regular frame's content: its number and its initialization vector
unfoldable pub regular_head : ℕ → List ℕ
regular_head number = to_big_endian w32 number ++ iv_of number

-- before a final frame's content: the mark, its number, its initialization vector and the content's
-- length
unfoldable pub final_head : ℕ → ℕ → List ℕ
final_head number size = to_big_endian w32 final_mark ++ to_big_endian w32 number ++ iv_of number
    ++ to_big_endian w32 size

-- the regular frame that has this number
unfoldable pub regular_frame : Under → ℕ → List ℕ → List ℕ
regular_frame u number text =
    regular_head number ++ sealed_unit u.key u.id Regular number (iv_of number) text

-- the final frame, being that number
unfoldable pub final_frame : Under → ℕ → List ℕ → List ℕ
final_frame u number text =
    final_head number (length text) ++ sealed_unit u.key u.id Final number (iv_of number) text

-- the single block, under a derived key, a message id and an initialization vector
unfoldable pub single_block : List ℕ → List ℕ → List ℕ → List ℕ → List ℕ
single_block key id iv text =
    iv ++ to_big_endian w64 (length text) ++ sealed_unit key id Single 1 iv text
