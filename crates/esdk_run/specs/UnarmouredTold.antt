-- What `decrypt` says of an input that tells its bytes, and that may be read as armour text.
use Rattle.std.specs.Prelude.{◌≡◌, ℕ, ◌^◌, ◌<◌, Bool, true, false, List, length, Option, Some, None}
use Rattle.esdk_fields.specs.Bytes.{AreBytes}
use Rattle.esdk_fields.specs.declared.faults.Fault.{Fault}
use Rattle.esdk_fields.specs.declared.faults.Fault.TheVariants.{BadArmour}
use Rattle.esdk_base.specs.Streams.{SourceState}
use Rattle.armour_core.specs.ArmourText.{armour_text}
use Rattle.armour_core.specs.Outlook.{text_outlook}
use Rattle.armour_core.specs.declared.text_end.TextEnd.{TextEnd}
use Rattle.armour_core.specs.declared.text_end.TextEnd.TheVariants as ends
use Rattle.body_format.specs.declared.verdicts.Verdict.{Verdict}
use Rattle.body_format.specs.declared.verdicts.Verdict.TheVariants as verdicts
use Rattle.esdk_decrypt.specs.Decrypt.{fault_at_end}
use Rattle.esdk_decrypt.specs.Laws.{IsWholeInput}
use Rattle.esdk_decrypt.specs.Told.{Reader, judged_by}

-- The fault of an input that ends so and whose bytes are judged so: one that stands in the bytes;
-- else the bad group at the end of its text; else that a message is cut short. Of a text that is
-- too long it's none.
abbrev pub input_fault : TextEnd → Verdict → Option Fault
input_fault ends.Whole verdict = fault_at_end verdict
input_fault end (verdicts.Faulty fault) = Some fault
input_fault (ends.Bad number) verdict = Some (BadArmour number)
input_fault ends.TooLong verdict = None

-- The input tells this text, which is whole, and what it gives is a whole message.
pub record IsWholeText (reader : Reader) (input : SourceState) (text : List ℕ) : Type 0 where
  pub told : input.left ≡ Some text
  pub end : (text_outlook text).end ≡ ends.Whole
  pub whole : (judged_by reader (text_outlook text).bytes).verdict ≡ verdicts.Whole

-- the input is a whole message, or the text of one
abbrev pub IsWholeAs : (armour : Bool) → Reader → SourceState → List ℕ → Type 0
IsWholeAs true reader input text = IsWholeText reader input text
IsWholeAs false reader input bytes = IsWholeInput reader input bytes

-- the input tells these bytes, of which there are fewer than 2^62, or their armour text
abbrev pub TellsAs : (armour : Bool) → SourceState → List ℕ → Type 0
TellsAs true input bytes = AreBytes bytes × (input.left ≡ Some (armour_text bytes))
    × (length (armour_text bytes) < 2 ^ 62)
TellsAs false input bytes = (input.left ≡ Some bytes) × (length bytes < 2 ^ 62)
