-- Units one after another. All of them but the last have one width, so the place of each is found
-- by multiplication.
use Rattle.std.specs.Prelude.{◌≡◌, ℕ, ◌+◌, ◌*◌, ◌≤◌, List, [], ◌∷◌, length, Bool, true, false, ◌==◌}
use Rattle.std.specs.Prelude.{if◌then◌else◌}
use Rattle.std.specs.List.{flat_map, prefix_len, range_with_len}
use Rattle.esdk_fields.specs.declared.faults.Fault.TheVariants.{TrailingBytes}
use Rattle.esdk_fields.specs.Place.{Place, past}
use Rattle.esdk_fields.specs.Reading.{Reading, Read, Refused, Wanting, FieldReader}
use Rattle.esdk_fields.specs.Sequential.{IsSequential}
use Rattle.frame_codec.specs.Unit.{Piece, More, Last}
use Rattle.body_format.specs.declared.verdicts.Verdict.{Verdict}
use Rattle.body_format.specs.declared.verdicts.Verdict.TheVariants.{Going, Whole, Faulty}

-- ---- slots

-- what is read at slot k of a body that begins at this place, unit k being read so
abbrev pub slot : ℕ → (ℕ → FieldReader Piece) → Place → ℕ → Reading Piece
slot width unit p k = unit k (past (k * width) p)

-- a whole unit that another one follows
abbrev pub is_more : Reading Piece → Bool
is_more (Read (More content) next) = true
is_more (Read (Last content) next) = false
is_more (Refused fault at) = false
is_more Wanting = false

-- the least k such that no whole unit that another one follows stands at slot k: a unit has at
-- least one byte, so there are at most as many slots before it as there are bytes
unfoldable pub first_other : ℕ → (ℕ → FieldReader Piece) → Place → ℕ
first_other width unit p =
    prefix_len (λ k. is_more (slot width unit p k)) (range_with_len 0 (length p.left))

-- ---- what is judged

-- the contents that are handed out, one for each unit, and the verdict
pub record JudgedBody : Type 0 where
  pub units : List (List ℕ)
  pub verdict : Verdict

-- the content of a unit that is whole, and good
abbrev pub released : Reading Piece → List (List ℕ)
released (Read (More content) next) = content ∷ []
released (Read (Last content) next) = content ∷ []
released (Refused fault at) = []
released Wanting = []

-- behind the last unit the body is whole, and one byte more is a fault
abbrev pub behind_last : List ℕ → Verdict
behind_last left = if length left == 0 then Whole else Faulty TrailingBytes

abbrev pub verdict_of : Reading Piece → Verdict
verdict_of (Read (More content) next) = Going
verdict_of (Read (Last content) next) = behind_last next.left
verdict_of (Refused fault at) = Faulty fault
verdict_of Wanting = Going

-- the contents of slots 0 to n, and what is said at slot n
abbrev pub judged_at : ℕ → (ℕ → FieldReader Piece) → Place → ℕ → JudgedBody
judged_at width unit p n = record {
  units = flat_map (λ k. released (slot width unit p k)) (range_with_len 0 (n + 1));
  verdict = verdict_of (slot width unit p n);
}

unfoldable pub judged_units : ℕ → (ℕ → FieldReader Piece) → Place → JudgedBody
judged_units width unit p = judged_at width unit p (first_other width unit p)

-- ---- rows

-- Units are read from left to right, each at its last byte; and a unit that another one follows has
-- exactly the width, which isn't 0.
pub record IsRow (width : ℕ) (unit : ℕ → FieldReader Piece) : Type 0 where
  pub wide : 1 ≤ width
  pub sequential : (k : ℕ) → IsSequential (unit k)
  pub sized : (k : ℕ) (p next : Place) (content : List ℕ) → unit k p ≡ Read (More content) next
      → (width ≤ length p.left) × (next ≡ past width p)
