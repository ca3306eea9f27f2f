-- A body as it is written: a text in frames. Standard: AWS Encryption SDK Specification, message
-- body, "Framed Data".
use Rattle.std.specs.Prelude.{ℕ, ◌+◌, ◌-◌, ◌*◌, ◌/◌, ◌^◌, ◌<◌, ◌≤◌, List, ◌++◌, length, take, drop}
use Rattle.std.specs.Prelude.{map, ◌==◌, if◌then◌else◌}
use Rattle.std.specs.List.{flat_map, range_with_len}
use Rattle.frame_codec.specs.UnitHead.{final_mark}
use Rattle.frame_codec.specs.Unit.{Under}
use Rattle.frame_codec.specs.Written.{regular_frame, final_frame}

-- how many frames a text of so many bytes has: one for the empty text, else its length by the frame
-- length, rounded up
unfoldable pub frame_count : ℕ → ℕ → ℕ
frame_count size frame = if size == 0 then 1 else (size + frame - 1) / frame

-- what frame i, counted from 0, has of the text
abbrev pub piece : ℕ → List ℕ → ℕ → List ℕ
piece frame text i = take frame (drop (i * frame) text)

-- what the first m frames have of the text
abbrev pub pieces : ℕ → List ℕ → ℕ → List (List ℕ)
pieces frame text m = map (piece frame text) (range_with_len 0 m)

-- the first m regular frames of a text in frames of this length; their numbers start at 1
unfoldable pub regular_frames : ℕ → Under → List ℕ → ℕ → List ℕ
regular_frames frame_length u text m =
    flat_map (λ i. regular_frame u (i + 1) (piece frame_length text i)) (range_with_len 0 m)

-- a text in frames of this length: all but the last are regular; the final frame has the rest
unfoldable pub framed_body : ℕ → Under → List ℕ → List ℕ
framed_body frame_length u text =
    let count = frame_count (length text) frame_length in
    regular_frames frame_length u text (count - 1)
    ++ final_frame u count (drop ((count - 1) * frame_length) text)

-- A text that can be written in frames of this length: a frame has at least one byte and at most
-- 2^32 - 1, and there are at most 2^32 - 1 frames.
pub record IsFramed (frame_length : ℕ) (text : List ℕ) : Type 0 where
  pub some : 1 ≤ frame_length
  pub narrow : frame_length < 2 ^ 32
  pub few : length text ≤ (2 ^ 32 - 1) * frame_length

-- So many full frames of this length can be made of the text, and numbered.
pub record AreFull (frame_length : ℕ) (text : List ℕ) (m : ℕ) : Type 0 where
  pub full : m * frame_length ≤ length text
  pub few : m < final_mark
