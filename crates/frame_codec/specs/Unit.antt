-- Reading a unit of a message body: what stands before its content, the content and its tag, and at
-- the tag's last byte whether it opens. Standard: AWS Encryption SDK Specification, message body,
-- "Framed Data" and "Nonframed Data"; the fault M20 is this library's.
use Rattle.std.specs.Prelude.{ℕ, ◌+◌, List, Option, Some, None}
use Rattle.esdk_fields.specs.declared.faults.Fault.{Fault}
use Rattle.esdk_fields.specs.declared.faults.Fault.TheVariants.{UnitTag}
use Rattle.esdk_fields.specs.declared.contents.Content.{Content}
use Rattle.esdk_fields.specs.declared.contents.Content.TheVariants as contents
use Rattle.esdk_fields.specs.Reading.{Read, Refused, FieldReader, ◌>>=◌, done, bytes}
use Rattle.cipher_spec.specs.Gcm.{opened}
use Rattle.frame_codec.specs.declared.kinds.UnitKind.{UnitKind}
use Rattle.frame_codec.specs.declared.kinds.UnitKind.TheVariants.{Regular, Final, Single}
use Rattle.frame_codec.specs.declared.unit_heads.UnitHead.{UnitHead}
use Rattle.frame_codec.specs.UnitAad.{unit_aad}
use Rattle.frame_codec.specs.UnitHead.{unit_head}

-- a unit's content: more units follow it, or it is the last
pub data Piece : Type 0 where
  More : (content : List ℕ) → Piece
  Last : (content : List ℕ) → Piece

abbrev pub piece_of : UnitKind → List ℕ → Piece
piece_of Regular content = More content
piece_of Final content = Last content
piece_of Single content = Last content

-- the field that ends here is good where it opens, and has this fault where it doesn't
abbrev pub opens : Option (List ℕ) → Fault → FieldReader (List ℕ)
opens (Some text) fault p = Read text p
opens None fault p = Refused fault p.at

-- the content of a unit under a derived key and a message id, where its tag is right
unfoldable pub opened_unit : List ℕ → List ℕ → UnitHead → List ℕ → List ℕ → Option (List ℕ)
opened_unit key id head cipher tag =
    opened key head.iv (unit_aad id head.kind head.number head.length) cipher tag

-- The unit that has this number, under a derived key and a message id.
unfoldable pub unit : Content → Option ℕ → List ℕ → List ℕ → ℕ → FieldReader Piece
unit content max_unit key id want = do
  head ← unit_head content want max_unit
  cipher ← bytes head.length
  tag ← bytes 16
  text ← opens (opened_unit key id head cipher tag) (UnitTag head.number)
  done (piece_of head.kind text)

-- what the frames of a message stand under: the derived key and the message id
pub record Under : Type 0 where
  pub key : List ℕ
  pub id : List ℕ

-- frame k, counted from 0, where frames have this length: its sequence number is k + 1
unfoldable pub frame : ℕ → Under → ℕ → FieldReader Piece
frame frame_length u k = unit (contents.Framed frame_length) None u.key u.id (k + 1)

-- the single block, under a derived key and a message id
unfoldable pub block_unit : Option ℕ → List ℕ → List ℕ → FieldReader Piece
block_unit max_unit key id = unit contents.Single max_unit key id 1
