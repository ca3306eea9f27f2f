-- Bytes that are armoured piece by piece: what a session is worth, and what each call makes of it.
use Rattle.std.specs.Prelude.{ℕ, ◌-◌, ◌*◌, ◌/◌, ◌%◌, ◌==◌, List, [], ◌++◌, length, take, drop, min}
use Rattle.std.specs.Prelude.{Bool, true, false, if◌then◌else◌}
use Rattle.armour_core.specs.ArmourText.{armour_text}

-- What a session is worth: the bytes that were taken, whether it was finished, and what the last
-- call gave.
pub record ArmouringValue : Type 0 where
  pub taken : List ℕ
  pub finished : Bool
  pub out : List ℕ

-- nothing is taken yet
abbrev pub new_armouring : ArmouringValue
new_armouring = record { taken = []; finished = false; out = [] }

-- how many bytes are the 76 characters of a full line
abbrev pub line_bytes : ℕ
line_bytes = 57

-- how many of so many bytes are in full lines
abbrev pub in_full_lines : ℕ → ℕ
in_full_lines count = line_bytes * (count / line_bytes)

-- the bytes of the open line: those behind the full lines
abbrev pub open_line : List ℕ → List ℕ
open_line taken = drop (in_full_lines (length taken)) taken

-- ---- a step

-- how many bytes of the piece are taken: as many as the open line has room for
abbrev pub taken_of : ArmouringValue → List ℕ → ℕ
taken_of v piece = min (line_bytes - length v.taken % line_bytes) (length piece)

-- the line's text, where these bytes fill a line
abbrev pub full_line_text : List ℕ → List ℕ
full_line_text line = if length line == line_bytes then armour_text line else []

-- a step takes these bytes, and gives the line that they fill
abbrev pub line_stepped : ArmouringValue → List ℕ → ArmouringValue
line_stepped v piece = record {
  taken = v.taken ++ take (taken_of v piece) piece;
  finished = v.finished;
  out = full_line_text (open_line v.taken ++ take (taken_of v piece) piece);
}

-- ---- the end

-- the end gives the open line, once
abbrev pub line_ended : ArmouringValue → ArmouringValue
line_ended v = if v.finished then record v { out = [] }
    else record v { finished = true; out = armour_text (open_line v.taken) }
