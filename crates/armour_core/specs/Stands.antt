-- When an armour or its reader stands for a session.
use Rattle.std.specs.Prelude.{◌≡◌, ℕ, ◌+◌, ◌-◌, ◌^◌, ◌%◌, ◌==◌, List, [], ◌∷◌, ◌++◌, length, take}
use Rattle.std.specs.Prelude.{min, Bool, true, false, ◌&&◌, Some, None, Result, Ok, Err}
use Rattle.esdk_fields.specs.declared.faults.Fault.TheVariants.{BadArmour}
use Rattle.armour_core.specs.declared.armour.Armour.{Armour}
use Rattle.armour_core.specs.declared.unarmour.Unarmour.{Unarmour}
use Rattle.armour_core.specs.declared.errors.ArmourError.{ArmourError}
use Rattle.armour_core.specs.declared.errors.ArmourError.TheVariants.{Fault}
use Rattle.armour_core.specs.Armouring.{ArmouringValue, line_bytes, open_line}
use Rattle.armour_core.specs.Unarmoured.{characters, is_character, padding, unarmoured}
use Rattle.armour_core.specs.Unarmouring.{UnarmouringValue, bad_armour, gained}

-- ---- armouring

-- It has the bytes of the open line, and what the last call gave.
pub record Stands (armour : Armour) (v : ArmouringValue) : Type 0 where
  pub finished : armour.finished ≡ v.finished
  pub held : armour.held ≡ length v.taken % line_bytes
  pub line : take armour.held armour.line ≡ open_line v.taken
  pub out : take armour.given armour.text ≡ v.out

-- `finish` wasn't called
abbrev pub ArmourIsOpen : Armour → Type 0
ArmourIsOpen armour = armour.finished ≡ false

-- ---- reading armour

-- The open group: its number, whether an earlier one had padding, and the characters that came of
-- it.
pub record OpenGroup : Type 0 where
  pub number : ℕ
  pub padded : Bool
  pub held : List ℕ

-- the group that is open behind these characters, of which the first is in the group of this number
unfoldable pub open_from : ℕ → Bool → List ℕ → OpenGroup
open_from number padded (a ∷ b ∷ c ∷ d ∷ rest) = open_from (number + 1) (d == padding) rest
open_from number padded short = record { number = number; padded = padded; held = short }

abbrev pub open_group : List ℕ → OpenGroup
open_group text = open_from 1 false (characters text)

-- It has the open group of this text, in which no group is bad.
pub record HoldsGroup (unarmour : Unarmour) (text : List ℕ) : Type 0 where
  pub number : unarmour.number ≡ min (open_group text).number (2 ^ 64 - 1)
  pub padded : unarmour.padded ≡ (open_group text).padded
  pub held : take unarmour.held unarmour.group ≡ (open_group text).held
  pub sound : (unarmoured text).bad ≡ None

-- M27 with the number of the open group
abbrev pub open_fault : Unarmour → ArmourError
open_fault unarmour = Fault (BadArmour unarmour.number)

-- It has the open group, until the session stops, and what the last call gave.
pub record StandsReading (unarmour : Unarmour) (v : UnarmouringValue) : Type 0 where
  pub stopped : unarmour.stopped ≡ v.stopped
  pub group : v.stopped ≡ false → HoldsGroup unarmour v.taken
  pub out : take unarmour.given unarmour.bytes ≡ v.out

-- ---- one byte more

-- it is the last character of a group
abbrev pub ends_group : List ℕ → ℕ → Bool
ends_group text byte = is_character byte && (length (characters text) % 4 == 3)

-- It took the byte, and gives what the group gives that it ends.
pub record TakesByte (text : List ℕ) (byte : ℕ) (ended : Bool) (new : Unarmour) : Type 0 where
  pub ends : ended ≡ ends_group text byte
  pub holds : HoldsGroup new (text ++ byte ∷ [])
  pub goes : new.stopped ≡ false
  pub out : take new.given new.bytes ≡ gained text (text ++ byte ∷ [])
  pub nothing : ended ≡ false → new.given ≡ 0

-- With the byte a group is bad.
pub record RefusesByte (text : List ℕ) (byte : ℕ) (error : ArmourError)
    (new : Unarmour) : Type 0 where
  pub number : ℕ
  pub bad : (unarmoured (text ++ byte ∷ [])).bad ≡ Some number
  pub error_is : error ≡ bad_armour number
  pub stops : new.stopped ≡ true
  pub given : new.given ≡ 0

-- what taking a byte behind this text comes to
abbrev pub TakesNext : List ℕ → ℕ → Unarmour → Result Bool ArmourError → Type 0
TakesNext text byte new (Ok ended) = TakesByte text byte ended new
TakesNext text byte new (Err error) = RefusesByte text byte error new
