-- What the laws of this crate say.
use Rattle.std.specs.Prelude.{◌≡◌, ◌<◌, ◌^◌, ℕ, List, [], ◌∷◌, ◌++◌, length, take, All, false, None}
use Rattle.esdk_fields.specs.Bytes.{AreBytes}
use Rattle.armour_core.specs.ArmourText.{armour_text}
use Rattle.armour_core.specs.Armouring.{ArmouringValue, in_full_lines, line_ended, line_stepped}
use Rattle.armour_core.specs.Armouring.{new_armouring, open_line}
use Rattle.armour_core.specs.ArmouredOutput.{full_lines_text}
use Rattle.armour_core.specs.Outlook.{text_outlook}
use Rattle.armour_core.specs.declared.text_end.TextEnd.TheVariants.{Whole}
use Rattle.armour_core.specs.Unarmoured.{Unarmoured, is_character, unarmoured}
use Rattle.armour_core.specs.Unarmouring.{UnarmouringValue, group_stepped, new_unarmouring}
use Rattle.armour_core.specs.Unarmouring.{text_ended}

-- ---- the text

-- a text that gives these bytes, with no bad and no short group
abbrev pub gives_all_bytes : List ℕ → Unarmoured
gives_all_bytes bytes = record { bytes = bytes; bad = None; short = false }

abbrev pub ReadsArmourText : Type 0
ReadsArmourText = (bytes : List ℕ) → AreBytes bytes
    → unarmoured (armour_text bytes) ≡ gives_all_bytes bytes

-- line feeds and carriage returns alone
abbrev pub AreLineBreaks : List ℕ → Type 0
AreLineBreaks breaks = All (λ byte. is_character byte ≡ false) breaks

abbrev pub PassesLineBreaks : Type 0
PassesLineBreaks = (front breaks rest : List ℕ) → AreLineBreaks breaks
    → unarmoured (front ++ breaks ++ rest) ≡ unarmoured (front ++ rest)

-- An armour text of fewer than 2^62 characters is taken whole as a source, and gives its bytes.
abbrev pub TakesArmourText : Type 0
TakesArmourText = (bytes : List ℕ) → AreBytes bytes → length (armour_text bytes) < 2 ^ 62
    → text_outlook (armour_text bytes) ≡ record { bytes = bytes; end = Whole }

-- ---- a receiver

-- The text of the full lines, and that of the open one, are the text of all.
abbrev pub LinesAndRest : Type 0
LinesAndRest = (bytes : List ℕ)
    → full_lines_text bytes ++ armour_text (open_line bytes) ≡ armour_text bytes

-- ---- armouring, any cut

-- the session after steps with these pieces
unfoldable pub after_steps : List (List ℕ) → ArmouringValue → ArmouringValue
after_steps [] v = v
after_steps (piece ∷ pieces) v = after_steps pieces (line_stepped v piece)

-- what they give, one after another
unfoldable pub given_by_steps : List (List ℕ) → ArmouringValue → List ℕ
given_by_steps [] v = []
given_by_steps (piece ∷ pieces) v =
    (line_stepped v piece).out ++ given_by_steps pieces (line_stepped v piece)

-- The steps give the full lines of what they took, `finish` gives the rest, and then nothing.
pub record ArmoursAnyCutOf (pieces : List (List ℕ)) (v : ArmouringValue) : Type 0 where
  pub lines : given_by_steps pieces new_armouring
      ≡ armour_text (take (in_full_lines (length v.taken)) v.taken)
  pub whole : given_by_steps pieces new_armouring ++ (line_ended v).out ≡ armour_text v.taken
  pub once : (line_ended (line_ended v)).out ≡ []

abbrev pub ArmoursAnyCut : Type 0
ArmoursAnyCut = (pieces : List (List ℕ))
    → ArmoursAnyCutOf pieces (after_steps pieces new_armouring)

-- ---- reading armour, any cut

-- A call: a step with this piece, or `finish`.
pub data ArmourCall : Type 0 where
  Step : (piece : List ℕ) → ArmourCall
  Finish : ArmourCall

abbrev pub after_armour_call : UnarmouringValue → ArmourCall → UnarmouringValue
after_armour_call v (Step piece) = group_stepped v piece
after_armour_call v Finish = text_ended v

-- the session after these calls
unfoldable pub after_calls : List ArmourCall → UnarmouringValue → UnarmouringValue
after_calls [] v = v
after_calls (call ∷ calls) v = after_calls calls (after_armour_call v call)

-- what they give, one after another
unfoldable pub given_by_calls : List ArmourCall → UnarmouringValue → List ℕ
given_by_calls [] v = []
given_by_calls (call ∷ calls) v =
    (after_armour_call v call).out ++ given_by_calls calls (after_armour_call v call)

-- Whatever the calls, what they give is what the text gives that was taken, and none of its groups
-- is bad.
pub record UnarmoursAnyCutOf (calls : List ArmourCall) (v : UnarmouringValue) : Type 0 where
  pub given : given_by_calls calls new_unarmouring ≡ (unarmoured v.taken).bytes
  pub sound : (unarmoured v.taken).bad ≡ None

abbrev pub UnarmoursAnyCut : Type 0
UnarmoursAnyCut = (calls : List ArmourCall)
    → UnarmoursAnyCutOf calls (after_calls calls new_unarmouring)
