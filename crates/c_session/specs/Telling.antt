-- Texts that are shown in a room.
use Rattle.std.specs.Prelude.{◌≡◌, ◌⊎◌, ℕ, List, ◌++◌, length, take, drop, min, Option, Some, None}
use Rattle.std.specs.Option.{option_map}
use Rattle.c_session.specs.declared.reason.Reason.{Reason}
use Rattle.c_session.specs.Reason.{reason_line, name_of}

-- As much of the text as there is room for stands at the room's front, and the rest of the room is
-- as it was. The number is that of all of its bytes.
pub record Shows (text room : List ℕ) (count : ℕ) (after : List ℕ) : Type 0 where
  pub whole : count ≡ length text
  pub written : after ≡ take (min (length text) (length room)) text
      ++ drop (min (length text) (length room)) room

-- This text is shown, where there is one; else nothing is, and the number is 0.
abbrev pub ShowsIf : Option (List ℕ) → List ℕ → ℕ → List ℕ → Type 0
ShowsIf None room count after = (count ≡ 0) × (after ≡ room)
ShowsIf (Some text) room count after = Shows text room count after

-- This text is shown, where there is one; else nothing is, and there is no number.
abbrev pub ShowsSome : Option (List ℕ) → List ℕ → Option ℕ → List ℕ → Type 0
ShowsSome None room count after = (count ≡ None) × (after ≡ room)
ShowsSome (Some text) room count after = (n : ℕ) × (count ≡ Some n) × Shows text room n after

-- The line of the reason is shown, where there is one; or its name alone, where memory ran out.
abbrev pub ShowsLine : Option Reason → List ℕ → ℕ → List ℕ → Type 0
ShowsLine reason room count after = ShowsIf (option_map reason_line reason) room count after
    ⊎ ShowsIf (option_map name_of reason) room count after
