-- An input that is read as armour text, where the words ask for that: what it gives, and how a
-- command ends that reads it so.
use Rattle.std.specs.Prelude.{◌≡◌, ◌⊎◌, ℕ, ◌<◌, ◌≤◌, ◌^◌, Bool, true, false, List, [], ◌++◌, length}
use Rattle.std.specs.Prelude.{None, Option}
use Rattle.std.specs.Option.{option_map}
use Rattle.esdk_fields.specs.Counts.{Rose, Stayed}
use Rattle.esdk_fields.specs.declared.faults.Fault.TheVariants.{BadArmour, Truncated}
use Rattle.esdk_fields.specs.declared.refusals.Outside.TheVariants.{InputTooLong, SourceFault}
use Rattle.esdk_base.specs.Streams.{OnTold, SourceState}
use Rattle.whole_input.specs.Pieces.{APieceBehind}
use Rattle.whole_input.specs.Taken.{Came, MostTaken}
use Rattle.armour_core.specs.Outlook.{Outlook, text_outlook}
use Rattle.armour_core.specs.declared.text_end.TextEnd.{TextEnd}
use Rattle.armour_core.specs.declared.text_end.TextEnd.TheVariants.{Bad, TooLong, Whole}
use Rattle.armour_core.specs.Unarmoured.{unarmoured}
use Rattle.esdk_report.specs.declared.failure.Failure.{Failure}
use Rattle.esdk_report.specs.declared.failure.Failure.TheVariants as failures

-- what an input of these bytes gives and how it ends: what the text gives, where it's read as
-- armour, and else the bytes themselves
abbrev pub outlook_of : (armour : Bool) → List ℕ → Outlook
outlook_of true text = text_outlook text
outlook_of false bytes = record { bytes = bytes; end = Whole }

-- ---- what was read

-- what a source gives that tells this text
abbrev pub given_by_text : Option (List ℕ) → Option (List ℕ)
given_by_text left = option_map (λ text. (text_outlook text).bytes) left

-- all bytes that the text gives were read
abbrev pub AllRead : (text read : List ℕ) → Type 0
AllRead text read = (unarmoured text).bytes ≡ read

-- they were, or the last piece of the text was taken for a byte that was read
abbrev pub NoMoreTaken : (text read : List ℕ) → Type 0
NoMoreTaken text read = AllRead text read
    ⊎ APieceBehind (λ front. length (unarmoured front).bytes < length read) text

-- all bytes that the text gives were read, and no group of it is bad
abbrev pub AllGood : (text read : List ℕ) → Type 0
AllGood text read = AllRead text read × ((unarmoured text).bad ≡ None)

-- At most 2^62 bytes of the input's text were taken, and of what the text gives this is so. That
-- was seen as it stands behind the whole text at first, and was read on; where no read of the text
-- failed, none of this did. The bytes that were read are the first that the text gives which came,
-- and `Reach` says how far of it was taken for them. No group was bad before the last piece of the
-- text was taken.
pub record ReadsText (Reach : List ℕ → List ℕ → Type 0) (input taken : SourceState)
    (So : SourceState → SourceState → Type 0) : Type 0 where
  pub text : List ℕ
  pub came : Came input taken text
  pub few : length text ≤ 2 ^ 62
  pub seen : SourceState
  pub read : SourceState
  pub gives : seen.left ≡ given_by_text input.left
  pub begins : seen.given ≡ 0
  pub none : seen.came ≡ []
  pub rest : List ℕ
  pub bytes : (unarmoured text).bytes ≡ read.came ++ rest
  pub count : read.given ≡ length read.came
  pub reach : Reach text read.came
  pub good : APieceBehind (λ front. (unarmoured front).bad ≡ None) text
  pub stayed : Stayed input.faults taken.faults → Stayed seen.faults read.faults
  pub so : So seen read

-- of an input that is read as armour, or as it is
abbrev pub ReadsInput : (armour : Bool) → SourceState → SourceState
    → (SourceState → SourceState → Type 0) → Type 0
ReadsInput true input taken So = ReadsText NoMoreTaken input taken So
ReadsInput false input taken So = So input taken

-- ---- how the text ended

-- the text that came ends so, whatever follows it; nothing does where its end was seen
abbrev pub TextEndsSo : (taken : SourceState) → (text : List ℕ) → TextEnd → Type 0
TextEndsSo taken text end = (more : List ℕ) → (taken.ended ≡ true → more ≡ [])
    → (text_outlook (text ++ more)).end ≡ end

-- The text that came ends so, and so does the one that is told; where it's whole, its end was seen.
-- No read of it failed.
pub record EndsText (input taken : SourceState) (end : TextEnd) : Type 0 where
  pub text : List ℕ
  pub came : Came input taken text
  pub ends : TextEndsSo taken text end
  pub seen : end ≡ Whole → taken.ended ≡ true
  pub told : OnTold input.left (λ text. (text_outlook text).end ≡ end)
  pub faults : taken.faults ≡ input.faults

-- 2^62 bytes of the text were taken, no read failed, and no group of them is bad.
pub record IsLongText (input taken : SourceState) : Type 0 where
  pub text : List ℕ
  pub came : Came input taken text
  pub most : MostTaken input taken text
  pub ends : TextEndsSo taken text TooLong
  pub told : OnTold input.left (λ text. (text_outlook text).end ≡ TooLong)

-- what is so of a whole input; one that is read as armour also ended with whole and good groups,
-- and all bytes that it gives were read
abbrev pub ReadsAll : (armour : Bool) → SourceState → SourceState
    → (SourceState → SourceState → Type 0) → Type 0
ReadsAll true input taken So = EndsText input taken Whole × ReadsText AllRead input taken So
ReadsAll false input taken So = So input taken

-- Why a command ends that reads a text. This is so of what the text gives: `So`, where it ends the
-- command by itself; `All`, where all of it came and has no fault; `Sound`, where what came of it
-- has none. M27 comes behind all of it, and M10 and X6 by the text's end; X1 comes where a read of
-- the text failed, and behind all bytes that the text taken gives, of which no group is bad.
abbrev pub TextEnds : Failure → SourceState → SourceState
    → (So All Sound : SourceState → SourceState → Type 0) → Type 0
TextEnds (failures.Fault (BadArmour number)) input taken So All Sound =
    EndsText input taken (Bad number) × ReadsText AllRead input taken All
TextEnds (failures.Fault Truncated) input taken So All Sound =
    EndsText input taken Whole × ReadsText AllRead input taken So
TextEnds (failures.Outside SourceFault) input taken So All Sound =
    Rose input.faults taken.faults × ReadsText AllGood input taken Sound
TextEnds (failures.Outside InputTooLong) input taken So All Sound =
    IsLongText input taken × ReadsText AllRead input taken Sound
TextEnds failure input taken So All Sound = ReadsText NoMoreTaken input taken So

-- why a command ends that reads an input as armour, or as it is
abbrev pub InputEnds : (armour : Bool) → Failure → SourceState → SourceState
    → (So All Sound : SourceState → SourceState → Type 0) → Type 0
InputEnds true failure input taken So All Sound = TextEnds failure input taken So All Sound
InputEnds false failure input taken So All Sound = So input taken
