-- How much is held of the open unit: fewer bytes than it has.
use Rattle.std.specs.Prelude.{◌≡◌, ℕ, ◌+◌, ◌<◌, ◌≤◌, List, length, take, drop, None, Some, true}
use Rattle.std.specs.Prelude.{false}
use Rattle.esdk_fields.specs.declared.contents.Content.TheVariants.{Framed}
use Rattle.header_codec.specs.Table.{HeaderFields, head}
use Rattle.frame_codec.specs.declared.unit_heads.Head.{Head as UnitKnown}
use Rattle.frame_codec.specs.declared.unit_heads.Head.TheVariants as heads
use Rattle.frame_codec.specs.UnitHead.{head_of}
use Rattle.body_format.specs.declared.verdicts.Verdict.TheVariants.{Going}
use Rattle.message_format.specs.Judgement.{Judged, judged, marks}
use Rattle.stream_open.specs.Feeding.{GoesOn}
use Rattle.stream_open.specs.Session.{OpeningValue, answer_kept, judged_now}

-- the judgement of the first n bytes taken
abbrev pub judged_front : OpeningValue → ℕ → Judged
judged_front v n = judged (take n v.taken) v.settings (answer_kept v.answer)

-- The last mark came with byte n: the first n bytes have all marks, and fewer bytes have fewer.
-- Where there is no mark, n is 0.
pub record IsLastMark (v : OpeningValue) (n : ℕ) : Type 0 where
  pub within : n ≤ length v.taken
  pub there : marks (judged_front v n) ≡ marks (judged_now v)
  pub first : (k : ℕ) → k < n → marks (judged_front v k) < marks (judged_now v)

-- so many bytes are fewer than the unit has, or than are needed to know how many it has
abbrev pub IsFewer : UnitKnown → ℕ → Type 0
IsFewer (heads.NeedMore end) n = n < end
IsFewer (heads.Refused fault) n = ⊥
IsFewer (heads.Unit head) n = n < head.size + head.length + 16

-- behind a header that is unlocked: these bytes came of the unit behind the units that were
-- released, fewer than it has; of a frame fewer than its content's most and 40
pub record HoldsPart (v : OpeningValue) (parts : HeaderFields) (bytes : List ℕ) : Type 0 where
  pub fewer : IsFewer (head_of parts.content (length (judged_now v).units + 1) v.settings.max_unit
      bytes) (length bytes)
  pub frame : (size : ℕ) → parts.content ≡ Framed size → length bytes < size + 40

-- What came since the last mark is fewer bytes than the unit that is open; until the header is
-- unlocked that is the header with its tag, which isn't whole yet.
pub record HoldsLess (v : OpeningValue) : Type 0 where
  pub mark : ℕ
  pub last : IsLastMark v mark
  pub locked : (judged_now v).unlocked ≡ false → (mark ≡ 0) × (head v.settings v.taken ≡ None)
  pub unlocked : (judged_now v).unlocked ≡ true
      → (parts : HeaderFields) × ((head v.settings v.taken ≡ Some parts)
      × HoldsPart v parts (drop mark v.taken))

-- A session that goes on, and whose message isn't whole, holds less than a unit.
abbrev pub HoldsLessThanAUnit : Type 0
HoldsLessThanAUnit = (v : OpeningValue) → GoesOn v → (judged_now v).verdict ≡ Going → HoldsLess v
