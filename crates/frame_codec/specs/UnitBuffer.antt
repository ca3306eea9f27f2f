-- The buffer of one unit: the bytes of it that came, or the content of the unit that was opened
-- last. Standard: AWS Encryption SDK Specification, message body; that a unit is opened where it
-- lies is this library's.
use Rattle.std.specs.Prelude.{ℕ, ◌+◌, ◌-◌, ◌≤◌, List, [], length, take, drop, Option, Some, None}
use Rattle.std.specs.Prelude.{IfSome}
use Rattle.frame_codec.specs.declared.unit_heads.UnitHead.{UnitHead}
use Rattle.frame_codec.specs.Unit.{opened_unit}
use Rattle.frame_codec.specs.declared.unit_buffer.Span.{Span}

-- So many bytes are reserved. `held` are those that came of the open unit, `out` is the content of
-- the unit that was opened last, and nothing once the next one goes on.
pub record UnitValue : Type 0 where
  pub reserved : ℕ
  pub held : List ℕ
  pub out : List ℕ

-- while no unit is opened, all bytes are the open unit's
abbrev pub held_in : Option Span → List ℕ → List ℕ
held_in None bytes = bytes
held_in (Some span) bytes = []

-- the content of the unit that was opened stands where its bytes stood
abbrev pub unit_out : Option Span → List ℕ → List ℕ
unit_out None bytes = []
unit_out (Some span) bytes = take (span.end - span.begin) (drop span.begin bytes)

-- The content stands within the bytes, and what is reserved is there.
pub record FitsUnit (opened : Option Span) (reserved : ℕ) (bytes : List ℕ) (capacity : ℕ)
    : Type 0 where
  pub content : IfSome opened (λ span. (span.begin ≤ span.end) × (span.end ≤ length bytes))
  pub room : reserved ≤ capacity

-- what opens of the bytes of a whole unit behind this head, under a derived key and a message id
abbrev pub opened_of : List ℕ → List ℕ → UnitHead → List ℕ → Option (List ℕ)
opened_of key id head bytes = opened_unit key id head (take head.length (drop head.size bytes))
    (take 16 (drop (head.size + head.length) bytes))
