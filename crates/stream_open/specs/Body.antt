-- The body of a message that comes in pieces: where a step ends, and what it gives.
use Rattle.std.specs.Prelude.{◌≡◌, ℕ, ◌+◌, ◌-◌, ◌*◌, ◌<◌, ◌≤◌, List, [], ◌++◌, length, take, min}
use Rattle.std.specs.Prelude.{Bool, true, false, Result, Ok, Err, ◌==◌, if◌then◌else◌}
use Rattle.std.specs.List.{prefix_len, range_with_len}
use Rattle.esdk_fields.specs.declared.contents.Content.{Content}
use Rattle.esdk_fields.specs.declared.contents.Content.TheVariants.{Single, Framed}
use Rattle.esdk_fields.specs.declared.faults.Fault.TheVariants.{TrailingBytes}
use Rattle.esdk_fields.specs.Place.{Place, start, past}
use Rattle.esdk_fields.specs.Reading.{Reading, Read, Refused, Wanting}
use Rattle.frame_codec.specs.declared.kinds.UnitKind.{UnitKind}
use Rattle.frame_codec.specs.declared.kinds.UnitKind.TheVariants as kinds
use Rattle.frame_codec.specs.declared.unit_heads.UnitHead.{UnitHead}
use Rattle.frame_codec.specs.Unit.{Piece, More, Last, unit}
use Rattle.body_format.specs.declared.verdicts.Verdict.TheVariants.{Going, Whole}
use Rattle.body_format.specs.Rows.{is_more}
use Rattle.body_format.specs.Body.{beside_content, judged_body}
use Rattle.stream_open.specs.declared.body.Body.{Body}
use Rattle.stream_open.specs.declared.errors.OpenError.{OpenError}
use Rattle.stream_open.specs.declared.errors.OpenError.TheVariants as errors

-- ---- one unit

-- what the bytes of the open unit are read as
abbrev pub open_unit : Body → List ℕ → Reading Piece
open_unit body bytes =
    unit body.content body.max_unit body.key body.message_id body.number (start bytes)

abbrev pub is_wanting : Reading Piece → Bool
is_wanting (Read piece next) = false
is_wanting (Refused fault at) = false
is_wanting Wanting = true

-- the body isn't ended, and its open unit isn't whole yet and has no fault; or it is ended
abbrev pub IsInUnit : Body → Type 0
IsInUnit body = body.ended ≡ false → open_unit body body.unit.held ≡ Wanting

-- the least number of bytes of the piece, at least one, with which the open unit is whole or has a
-- fault; else all of them
unfoldable pub reach_in_piece : Body → List ℕ → ℕ
reach_in_piece body piece =
    min (1 + prefix_len (λ n. is_wanting (open_unit body (body.unit.held ++ take n piece)))
    (range_with_len 1 (length piece))) (length piece)

-- ---- a step

-- what a step answers, by what the open unit is read as with so many bytes of the piece
abbrev pub reading_answer : ℕ → Reading Piece → Result ℕ OpenError
reading_answer n (Read piece next) = Ok n
reading_answer n (Refused fault at) = Err (errors.Fault fault)
reading_answer n Wanting = Ok n

-- behind the last unit no byte may follow
abbrev pub answer_behind : List ℕ → Result ℕ OpenError
answer_behind piece = if length piece == 0 then Ok 0 else Err (errors.Fault TrailingBytes)

-- Behind the last unit that answer. Else bytes are taken up to the end of the open unit, or up to
-- where it has a fault.
unfoldable pub body_answer : Body → List ℕ → Result ℕ OpenError
body_answer body piece =
    if body.ended then answer_behind piece
    else reading_answer (reach_in_piece body piece)
    (open_unit body (body.unit.held ++ take (reach_in_piece body piece) piece))

-- the reserved memory holds a whole frame
abbrev pub HoldsFrames : Content → ℕ → Type 0
HoldsFrames Single reserved = ⊥
HoldsFrames (Framed size) reserved = size + 40 ≤ reserved

-- A body whose units the reserved memory doesn't hold: the single block.
abbrev pub LacksRoom : Body → Type 0
LacksRoom body = HoldsFrames body.content body.unit.reserved → ⊥

-- that answer; or memory ran out, and more was needed than is reserved
abbrev pub AnswersBody : Body → List ℕ → Result ℕ OpenError → Type 0
AnswersBody body piece (Ok n) = body_answer body piece ≡ Ok n
AnswersBody body piece (Err (errors.Fault fault)) =
    body_answer body piece ≡ Err (errors.Fault fault)
AnswersBody body piece (Err errors.Memory) = (body.ended ≡ false) × LacksRoom body
AnswersBody body piece (Err error) = ⊥

-- What the open unit is read as, the body has become after it: it is still open and nothing is
-- given, or its content is given and another unit follows, or none.
abbrev pub BecameBody : Body → List ℕ → Reading Piece → Body → Type 0
BecameBody old bytes (Read (More content) next) new = (new.number ≡ old.number + 1)
    × (new.ended ≡ false) × (new.unit.held ≡ []) × (new.unit.out ≡ content)
BecameBody old bytes (Read (Last content) next) new = (new.ended ≡ true) × (new.unit.out ≡ content)
BecameBody old bytes (Refused fault at) new = new.unit.out ≡ []
BecameBody old bytes Wanting new =
    (new.number ≡ old.number) × (new.ended ≡ false) × (new.unit.held ≡ bytes) × (new.unit.out ≡ [])

-- after a step that used so many bytes of the piece: nothing is given behind the last unit
abbrev pub StepsIn : Bool → Body → List ℕ → Body → Type 0
StepsIn true old bytes new = (new.ended ≡ true) × (new.unit.out ≡ [])
StepsIn false old bytes new = BecameBody old bytes (open_unit old bytes) new

abbrev pub StepsBody : Body → List ℕ → ℕ → Body → Type 0
StepsBody old piece n new = StepsIn old.ended old (old.unit.held ++ take n piece) new

-- the unit behind this head was opened: another follows it, or none
abbrev pub GoesBehind : UnitKind → ℕ → Body → Type 0
GoesBehind kinds.Regular number new =
    (new.number ≡ number + 1) × (new.ended ≡ false) × (new.unit.held ≡ [])
GoesBehind kinds.Final number new = new.ended ≡ true
GoesBehind kinds.Single number new = new.ended ≡ true

abbrev pub BodyGoesOn : UnitHead → Body → Type 0
BodyGoesOn head new = GoesBehind head.kind head.number new

-- what a step leaves as it was
pub record SameBody (old new : Body) : Type 0 where
  pub key : new.key ≡ old.key
  pub id : new.message_id ≡ old.message_id
  pub content : new.content ≡ old.content
  pub max_unit : new.max_unit ≡ old.max_unit
  pub reserved : new.unit.reserved ≡ old.unit.reserved

-- ---- which bytes it stands behind

-- how far it is from one unit to the next
abbrev pub unit_width : Content → ℕ
unit_width Single = 1
unit_width (Framed size) = size + beside_content

-- The bytes from this place on have the units before the open one, each followed by another, and
-- what is held of the open one, which isn't whole yet and has no fault.
pub record IsBehind (body : Body) (p : Place) : Type 0 where
  pub some : 1 ≤ body.number
  pub before : (k : ℕ) → k < body.number - 1
      → is_more (unit body.content body.max_unit body.key body.message_id (k + 1)
      (past (k * unit_width body.content) p)) ≡ true
  pub held : body.unit.held ≡ (past ((body.number - 1) * unit_width body.content) p).left
  pub wanting : open_unit body body.unit.held ≡ Wanting

-- What is said of the bytes from this place on is that they are whole, once the body is ended, and
-- else that more are wanted; and while the session goes on the body is behind them.
pub record StandsBehind (stopped : Bool) (body : Body) (p : Place) : Type 0 where
  pub verdict : (judged_body body.content body.max_unit body.key body.message_id p).verdict
      ≡ (if body.ended then Whole else Going)
  pub going : stopped ≡ false → body.ended ≡ false → IsBehind body p
