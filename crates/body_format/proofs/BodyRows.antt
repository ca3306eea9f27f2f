-- Frames, and the single block, are units in a row.
use Rattle.std.proofs.Common.{◌≡◌, ℕ, ◌+◌, List, [], Option, ap, arith}
use Rattle.esdk_fields.specs.declared.contents.Content.TheVariants as contents
use Rattle.esdk_fields.specs.Place.{Place}
use Rattle.esdk_fields.specs.Reading.{Reading, Read, Wanting, then_read}
use Rattle.frame_codec.specs.declared.kinds.UnitKind.{UnitKind}
use Rattle.frame_codec.specs.declared.kinds.UnitKind.TheVariants as kinds
use Rattle.frame_codec.specs.declared.unit_heads.UnitHead.{UnitHead}
use Rattle.frame_codec.specs.UnitHead.{unit_head, block_start}
use Rattle.frame_codec.specs.Unit.{More, piece_of, Under, unit, frame, block_unit}
use Rattle.frame_codec.proofs.Fields.{place}
use Rattle.frame_codec.proofs.Order.{IsSequential-frame, IsSequential-block}
use Rattle.frame_codec.proofs.Sizes.{frame_sized}
use Rattle.frame_codec.proofs.Units.{unit_is_read}
use Rattle.frame_codec.proofs.Steps.{after_head}
use Rattle.frame_codec.proofs.Ways.{Short, Other, Numbered, Regular, Marked, FinalOther, FinalNumbered, FinalLong, Final, frame_way, BlockShort, BlockLong, BlockOver, Block, block_way}
use Rattle.body_format.specs.Rows.{IsRow}
use Rattle.body_format.specs.Body.{beside_content}

pub frames_row : (frame_length : ℕ) (u : Under) → IsRow (frame_length + beside_content) (frame frame_length u)
frames_row frame_length u = record {
  wide = omega arith;
  sequential = IsSequential-frame frame_length u;
  sized = λ k p next content e. frame_sized frame_length u k p content next e;
}

pub same_kind : (r : Reading UnitHead) (x y : UnitHead) (p q : Place) → r ≡ Read x p → r ≡ Read y q → x.kind ≡ y.kind
same_kind r x y p q e f = cc

block_head : (max_unit : Option ℕ) (left : List ℕ) (head : UnitHead) (next : Place) → block_start max_unit (place 0 left) ≡ Read head next → head.kind ≡ kinds.Single
block_head max_unit left head next e =
    elim (block_way max_unit left) [
      | BlockShort short is ↦ absurd (let h = is 0 in cc)
      | BlockLong long over is ↦ absurd (let h = is 0 in cc)
      | BlockOver long within over is ↦ absurd (let h = is 0 in cc)
      | Block long within under is ↦ same_kind (block_start max_unit (place 0 left)) head _ next _ e (is 0)
    ]

last_kind : (kind : UnitKind) (content text : List ℕ) → kind ≡ kinds.Single → More content ≡ piece_of kind text → ⊥
last_kind kinds.Regular content text e f = absurd cc
last_kind kinds.Final content text e f = cc
last_kind kinds.Single content text e f = cc

-- a block is never followed by another unit
pub block_last : (max_unit : Option ℕ) (key id : List ℕ) (p next : Place) (content : List ℕ) → block_unit max_unit key id p ≡ Read (More content) next → ⊥
unfolding block_unit unit_head
block_last max_unit key id p next content e =
    let r = unit_is_read contents.Single max_unit key id 1 p (More content) next e in
    last_kind r.head.kind content r.text (block_head max_unit p.left r.head _ (r.reads.is 0)) r.piece_is

pub block_row : (max_unit : Option ℕ) (key id : List ℕ) → IsRow 1 (λ k. block_unit max_unit key id)
block_row max_unit key id = record {
  wide = omega arith;
  sequential = λ k. IsSequential-block max_unit key id;
  sized = λ k p next content e. absurd (block_last max_unit key id p next content e);
}

-- where no byte is, more are wanted for a frame
pub no_frame : (frame_length : ℕ) (u : Under) (k at : ℕ) → frame frame_length u k (place at []) ≡ Wanting
unfolding frame unit unit_head
no_frame frame_length u k at =
    elim (frame_way (k + 1) frame_length []) [
      | Short short is ↦ ap (λ r. then_read r (after_head u.key u.id)) (is at)
      | Other long unmarked other is ↦ absurd (omega arith)
      | Numbered long short unmarked same is ↦ absurd (omega arith)
      | Regular long unmarked same is ↦ absurd (omega arith)
      | Marked long short marked is ↦ absurd (omega arith)
      | FinalOther long marked other is ↦ absurd (omega arith)
      | FinalNumbered long short marked same is ↦ absurd (omega arith)
      | FinalLong long marked same over is ↦ absurd (omega arith)
      | Final long marked same within is ↦ absurd (omega arith)
    ]
