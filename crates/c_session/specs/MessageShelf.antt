-- A shelf that has a message as its file, of which a caller hands over some bytes.
use Rattle.std.specs.Prelude.{◌≡◌, ℕ, ◌≤◌, List, [], ◌++◌, length, take}
use Rattle.std.specs.List.{All}
use Rattle.esdk_seen.specs.Calls.{ShelfCall}
use Rattle.whole_input.specs.FileReads.{AgreesWithCall}
use Rattle.session_parts.specs.Handed.{HandedPart, HasHanded, notes_of, the_message}

-- how many bytes it gave, how often it failed, and its calls so far
pub record ShelfNow : Type 0 where
  pub given : ℕ
  pub faults : ℕ
  pub calls : List ShelfCall

-- Its first calls are the notes of what was handed over, and each message that has that agrees with
-- the others.
pub record AgreesSoFar (h : HandedPart) (calls : List ShelfCall) : Type 0 where
  pub made : List ShelfCall
  pub so_far : calls ≡ notes_of h ++ made
  pub agree : (message : List ℕ) → HasHanded h message
      → All (AgreesWithCall the_message message) made

-- So many bytes of what is left stand at the front of the room; none only where none are left.
pub record FillsRoom (left room : List ℕ) (count : ℕ) : Type 0 where
  pub within : count ≤ length room
  pub most : count ≤ length left
  pub front : take count room ≡ take count left
  pub none : count ≡ 0 → left ≡ []
