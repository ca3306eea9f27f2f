-- A text that is read as armour piece by piece: what a session is worth, and what each call makes
-- of it.
use Rattle.std.specs.Prelude.{◌≡◌, ℕ, zero, suc, ◌+◌, ◌-◌, ◌^◌, ◌%◌, List, [], ◌∷◌, ◌++◌, length}
use Rattle.std.specs.Prelude.{take, drop, min, Bool, true, false, if◌then◌else◌, Option, Some, None}
use Rattle.std.specs.Prelude.{Result, Ok, Err}
use Rattle.esdk_fields.specs.declared.faults.Fault.TheVariants.{BadArmour}
use Rattle.armour_core.specs.declared.errors.ArmourError.{ArmourError}
use Rattle.armour_core.specs.declared.errors.ArmourError.TheVariants.{Fault, Stopped}
use Rattle.armour_core.specs.Unarmoured.{characters, group_count, is_character, unarmoured}

-- What a session is worth: the text that was taken, whether it stopped, and what the last call
-- gave.
pub record UnarmouringValue : Type 0 where
  pub taken : List ℕ
  pub stopped : Bool
  pub out : List ℕ

-- nothing is taken yet
abbrev pub new_unarmouring : UnarmouringValue
new_unarmouring = record { taken = []; stopped = false; out = [] }

-- M27 with this group's number, or 2^64 - 1 where that is greater
abbrev pub bad_armour : ℕ → ArmourError
bad_armour number = Fault (BadArmour (min number (2 ^ 64 - 1)))

-- it is M27 with just this number
abbrev pub IsBadGroup : ArmourError → ℕ → Type 0
IsBadGroup error number = error ≡ Fault (BadArmour number)

-- an error stops the session, and gives nothing
abbrev pub unarmouring_stopped : UnarmouringValue → UnarmouringValue
unarmouring_stopped v = record v { stopped = true; out = [] }

-- ---- a step

-- how many bytes go up to the one with which they have so many characters; all of them, where they
-- have fewer
unfoldable pub bytes_with : List ℕ → ℕ → ℕ
bytes_with [] count = 0
bytes_with (byte ∷ rest) zero = 0
bytes_with (byte ∷ rest) (suc count) =
    bytes_with rest (if is_character byte then count else suc count) + 1

-- how many bytes of the piece go up to the end of the open group
abbrev pub used_in_piece : UnarmouringValue → List ℕ → ℕ
used_in_piece v piece = bytes_with piece (4 - length (characters v.taken) % 4)

-- the text with these bytes
abbrev pub text_with : UnarmouringValue → List ℕ → List ℕ
text_with v piece = v.taken ++ take (used_in_piece v piece) piece

-- what the text gives beyond a front of it
abbrev pub gained : List ℕ → List ℕ → List ℕ
gained front text = drop (length (unarmoured front).bytes) (unarmoured text).bytes

-- where this group is bad, it is M27, and else so many bytes are used
abbrev pub answer_where : Option ℕ → ℕ → Result ℕ ArmourError
answer_where None used = Ok used
answer_where (Some number) used = Err (bad_armour number)

unfoldable pub group_answer : UnarmouringValue → List ℕ → Result ℕ ArmourError
group_answer v piece = if v.stopped then Err Stopped
    else answer_where (unarmoured (text_with v piece)).bad (used_in_piece v piece)

abbrev pub stepped_where : Option ℕ → UnarmouringValue → List ℕ → UnarmouringValue
stepped_where None v text =
    record { taken = text; stopped = false; out = gained v.taken text }
stepped_where (Some number) v text = unarmouring_stopped v

-- the session after a step: it took these bytes, and gave what the group gives that they end
unfoldable pub group_stepped : UnarmouringValue → List ℕ → UnarmouringValue
group_stepped v piece = if v.stopped then unarmouring_stopped v
    else stepped_where (unarmoured (text_with v piece)).bad v (text_with v piece)

-- ---- the end

-- the text may end here, or its last group is short
unfoldable pub end_answer : UnarmouringValue → Result (Unit {0}) ArmourError
end_answer v = if v.stopped then Err Stopped
    else if (unarmoured v.taken).short then Err (bad_armour (group_count v.taken))
    else Ok tt

unfoldable pub text_ended : UnarmouringValue → UnarmouringValue
text_ended v = if v.stopped then unarmouring_stopped v
    else if (unarmoured v.taken).short then unarmouring_stopped v
    else record v { out = [] }
