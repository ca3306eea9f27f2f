-- The buffer of one frame: the bytes of its content that came, or the frame sealed.
use Rattle.std.specs.Prelude.{ℕ, ◌+◌, ◌-◌, ◌^◌, ◌<◌, ◌≤◌, List, [], length, drop}
use Rattle.stream_seal.specs.declared.frame_buffer.Stage.{Stage}
use Rattle.stream_seal.specs.declared.frame_buffer.Stage.TheVariants.{Open, Regular, Final}

-- how many bytes stand before a final frame's content, and before a regular frame's; how many a tag
-- has
abbrev pub final_head_length : ℕ
final_head_length = 24

abbrev pub regular_head_length : ℕ
regular_head_length = 16

abbrev pub tag_length : ℕ
tag_length = 16

-- A frame's content has at most `size` bytes. `text` are those that came of the open frame, `out`
-- is the frame that was sealed last, and nothing once the next one goes on.
pub record FrameValue : Type 0 where
  pub size : ℕ
  pub text : List ℕ
  pub out : List ℕ

-- the content of the open frame, behind the room for a head
abbrev pub text_in : Stage → List ℕ → List ℕ
text_in Open bytes = drop final_head_length bytes
text_in Regular bytes = []
text_in Final bytes = []

-- the frame that was sealed: a regular frame's head is shorter, and stands right before the content
abbrev pub frame_out : Stage → List ℕ → List ℕ
frame_out Open bytes = []
frame_out Regular bytes = drop (final_head_length - regular_head_length) bytes
frame_out Final bytes = bytes

-- The head has room before the content, the content has at most the frame length, which isn't 0,
-- and the whole frame fits into the memory that was reserved.
pub record FitsFrame (stage : Stage) (size : ℕ) (bytes : List ℕ) (capacity : ℕ) : Type 0 where
  pub head : final_head_length ≤ length bytes
  pub short : length (text_in stage bytes) ≤ size
  pub some : 1 ≤ size
  pub narrow : size < 2 ^ 32
  pub room : final_head_length + size + tag_length ≤ capacity
