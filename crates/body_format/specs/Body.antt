-- The judgement of the bytes that stand where a message's body is to be. Standard: AWS Encryption
-- SDK Specification, message body, "Framed Data" and "Nonframed Data"; the faults M18 to M22 and M9
-- are this library's.
use Rattle.std.specs.Prelude.{ℕ, ◌+◌, List, Option}
use Rattle.esdk_fields.specs.declared.contents.Content.{Content}
use Rattle.esdk_fields.specs.declared.contents.Content.TheVariants.{Single, Framed}
use Rattle.esdk_fields.specs.Place.{Place}
use Rattle.frame_codec.specs.Unit.{Under, frame, block_unit}
use Rattle.body_format.specs.Rows.{JudgedBody, judged_units}

-- how many bytes a regular frame has beside its content: number, initialization vector and tag
abbrev pub beside_content : ℕ
beside_content = 32

-- Frames of this length: regular ones of one width, and a final one.
unfoldable pub judged_frames : ℕ → Under → Place → JudgedBody
judged_frames frame_length u p =
    judged_units (frame_length + beside_content) (frame frame_length u) p

-- The single block, and nothing behind it.
unfoldable pub judged_block : Option ℕ → List ℕ → List ℕ → Place → JudgedBody
judged_block max_unit key id p = judged_units 1 (λ k. block_unit max_unit key id) p

-- The body that begins at this place, under a derived key and a message id. `max_unit` limits a
-- single block alone.
unfoldable pub judged_body : Content → Option ℕ → List ℕ → List ℕ → Place → JudgedBody
judged_body Single max_unit key id p = judged_block max_unit key id p
judged_body (Framed frame_length) max_unit key id p =
    judged_frames frame_length (record { key = key; id = id }) p
