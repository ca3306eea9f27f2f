-- How the end of a text is judged behind its bytes.
use Rattle.std.specs.Prelude.{◌≡◌, ◌⊎◌, ℕ, Bool, true, false, List, [], Option, Some, Result, Ok}
use Rattle.std.specs.Prelude.{Err}
use Rattle.std.specs.Option.{option_map}
use Rattle.esdk_fields.specs.Counts.{Rose}
use Rattle.esdk_fields.specs.declared.faults.Fault.{Fault}
use Rattle.esdk_fields.specs.declared.faults.Fault.TheVariants.{BadArmour, Truncated}
use Rattle.esdk_fields.specs.declared.refusals.Outside.TheVariants.{InputTooLong, SourceFault}
use Rattle.esdk_base.specs.Streams.{SourceState, most_input}
use Rattle.armour_core.specs.declared.reader.ArmourReader.{ArmourReader}
use Rattle.armour_core.specs.declared.text_end.TextEnd.{TextEnd}
use Rattle.armour_core.specs.declared.text_end.TextEnd.TheVariants.{Bad, TooLong, Whole}
use Rattle.armour_core.specs.ReaderOutlook.{Awaits, FailsAs, IsReadSoFar, TextIsOver, gives}
use Rattle.armour_core.specs.ReaderOutlook.{reader_outlook, told_end}
use Rattle.esdk_decrypt.specs.declared.errors.DecryptError.{DecryptError}
use Rattle.esdk_decrypt.specs.declared.errors.DecryptError.TheVariants as errors

-- M10, which bytes have by their end alone
abbrev pub is_cut_short : Fault → Bool
is_cut_short Truncated = true
is_cut_short fault = false

-- what a reader gives of the text that is left, where that is told
abbrev pub left_of : SourceState → ArmourReader → Option (List ℕ)
left_of input r = option_map (λ text. (reader_outlook r text).bytes) input.left

-- The reader saw that the text ends so, as it does where it is told, and no read failed.
pub record SeesTextEnd (before now : SourceState) (old new : ArmourReader)
    (end : TextEnd) : Type 0 where
  pub ending : new.ending ≡ Some end
  pub told : (told : TextEnd) → told_end before old ≡ Some told → told ≡ end
  pub faults : now.faults ≡ before.faults

-- all bytes that the text taken gives were read
abbrev pub IsReadOut : ArmourReader → Type 0
IsReadOut r = gives r [] ≡ 0

-- no bytes are left, where the text is told, or it was seen how it ends
abbrev pub TextIsBehind : SourceState → ArmourReader → Type 0
TextIsBehind before old = (left_of before old ≡ Some []) ⊎ TextIsOver old

-- What is seen of a text's end: behind all bytes that it gives, that it is whole; that a group is
-- bad; that 2^62 bytes of it were taken; or that a read fails.
abbrev pub SeesAs : SourceState → SourceState → ArmourReader → ArmourReader
    → Result (Unit {0}) DecryptError → Type 0
SeesAs before now old new (Ok done) = (now.faults ≡ before.faults)
    × (TextIsBehind before old → SeesTextEnd before now old new Whole × IsReadOut new)
SeesAs before now old new (Err (errors.Fault (BadArmour number))) =
    SeesTextEnd before now old new (Bad number) × IsReadOut new
SeesAs before now old new (Err (errors.Outside InputTooLong)) =
    SeesTextEnd before now old new TooLong × (new.pieces.taken ≡ most_input) × IsReadOut new
SeesAs before now old new (Err (errors.Outside SourceFault)) =
    Rose before.faults now.faults × IsReadSoFar new
SeesAs before now old new (Err error) = ⊥

-- The text was taken to its end, where its bytes are `sound`, and else no further.
pub record LooksOn (before now : SourceState) (old new : ArmourReader) (old_faults new_faults : ℕ)
    (sound : Bool) : Type 0 where
  pub awaits : Awaits before now old new old_faults
  pub fails : FailsAs before now old_faults new_faults
  pub still : sound ≡ false → awaits.reads.text ≡ []
