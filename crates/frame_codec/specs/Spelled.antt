-- A unit as it is spelled, without the reader. Standard: AWS Encryption SDK Specification, message
-- body, "Regular Frame", "Final Frame", "Single Block".
use Rattle.std.specs.Prelude.{◌≡◌, ℕ, ◌+◌, ◌^◌, ◌<◌, ◌≤◌, List, ◌++◌, length, Option, IfSome}
use Rattle.std.specs.Int.{w32}
use Rattle.esdk_fields.specs.declared.contents.Content.{Content}
use Rattle.esdk_fields.specs.declared.contents.Content.TheVariants as contents
use Rattle.esdk_fields.specs.Numbers.{to_big_endian}
use Rattle.esdk_fields.specs.Place.{Place}
use Rattle.frame_codec.specs.declared.kinds.UnitKind.TheVariants.{Regular, Final}
use Rattle.frame_codec.specs.UnitHead.{final_mark, longest_block}
use Rattle.frame_codec.specs.Unit.{Piece, More, Last}
use Rattle.frame_codec.specs.Written.{sealed_unit, single_block}

-- The bytes begin with the unit that has this number, sealed under a derived key and a message id
-- with some initialization vector; it ends there.
pub data UnitIsSpelled (content : Content) (max_unit : Option ℕ) (key id : List ℕ) (want : ℕ)
    (bytes : List ℕ) (piece : Piece) (end : Place) : Type 0 where
  RegularFrame : (iv text : List ℕ) → content ≡ contents.Framed (length text) → want < final_mark
      → length iv ≡ 12
      → bytes ≡ (to_big_endian w32 want ++ iv ++ sealed_unit key id Regular want iv text)
      ++ end.left → end.at ≡ length text + 32 → piece ≡ More text
      → UnitIsSpelled content max_unit key id want bytes piece end
  FinalFrame : (frame : ℕ) (iv text : List ℕ) → content ≡ contents.Framed frame
      → length text ≤ frame → length text < 2 ^ 32 → want < 2 ^ 32 → length iv ≡ 12
      → bytes ≡ (to_big_endian w32 final_mark ++ to_big_endian w32 want ++ iv
      ++ to_big_endian w32 (length text) ++ sealed_unit key id Final want iv text) ++ end.left
      → end.at ≡ length text + 40 → piece ≡ Last text
      → UnitIsSpelled content max_unit key id want bytes piece end
  SingleBlock : (iv text : List ℕ) → content ≡ contents.Single → length text ≤ longest_block
      → IfSome max_unit (λ most. length text ≤ most) → length iv ≡ 12
      → bytes ≡ single_block key id iv text ++ end.left → end.at ≡ length text + 36
      → piece ≡ Last text → UnitIsSpelled content max_unit key id want bytes piece end
