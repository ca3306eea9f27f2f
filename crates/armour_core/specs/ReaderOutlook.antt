-- What is to come of a text that a reader takes from a source piece by piece.
use Rattle.std.specs.Prelude.{◌≡◌, ◌≢◌, ◌⊎◌, ℕ, ◌+◌, ◌-◌, ◌*◌, ◌^◌, ◌<◌, ◌≤◌, nat_le, is_none}
use Rattle.std.specs.Prelude.{if◌then◌else◌, Bool, true, List, [], ◌++◌, length, take, drop, Option}
use Rattle.std.specs.Prelude.{Some, None}
use Rattle.std.specs.Option.{option_map}
use Rattle.esdk_fields.specs.Counts.{Rose, RoseBy, counted}
use Rattle.esdk_base.specs.Streams.{SourceState, most_input}
use Rattle.whole_input.specs.Pieces.{APieceBehind, most_piece}
use Rattle.whole_input.specs.Taken.{Came}
use Rattle.armour_core.specs.declared.reader.ArmourReader.{ArmourReader}
use Rattle.armour_core.specs.declared.text_end.TextEnd.{TextEnd}
use Rattle.armour_core.specs.declared.text_end.TextEnd.TheVariants.{TooLong, Whole}
use Rattle.armour_core.specs.Outlook.{Outlook, open_of, read_out, with_front}

-- the text of the last piece that wasn't read yet
abbrev pub unread : ArmourReader → List ℕ
unread r = drop r.at r.pieces.piece

-- the bytes of the last group that weren't handed on yet
abbrev pub pending : ArmourReader → List ℕ
pending r = drop r.handed (take r.unarmour.given r.unarmour.bytes)

-- how much more text may be taken
abbrev pub text_room : ArmourReader → ℕ
text_room r = most_input - r.pieces.taken

-- what is to come behind these bytes, where this text follows the last piece
abbrev pub coming : Option TextEnd → ArmourReader → List ℕ → Outlook
coming (Some end) r text = record { bytes = []; end = end }
coming None r text =
    read_out (open_of r.unarmour) (unread r ++ take (text_room r) text)
    (nat_le (text_room r) (length text))

unfoldable pub reader_outlook : ArmourReader → List ℕ → Outlook
reader_outlook r text = with_front (pending r) (coming r.ending r text)

-- All bytes were handed on, and all text of the last piece was read.
pub record TextIsSpent (r : ArmourReader) : Type 0 where
  pub handed : pending r ≡ []
  pub read : r.ending ≡ None → unread r ≡ []

-- Where the source tells its text, the same is to come.
abbrev pub KeepsOutlook : SourceState → SourceState → ArmourReader → ArmourReader → Type 0
KeepsOutlook before now old new = (text : List ℕ) → before.left ≡ Some text
    → (rest : List ℕ) × (now.left ≡ Some rest) × (reader_outlook new rest ≡ reader_outlook old text)

-- how the text ends, where the source tells
abbrev pub told_end : SourceState → ArmourReader → Option TextEnd
told_end input r = option_map (λ text. (reader_outlook r text).end) input.left

-- ---- what is taken

-- how many bytes are to come, where this text follows the last piece and then ends
abbrev pub gives : ArmourReader → List ℕ → ℕ
gives r text = length (reader_outlook r text).bytes

-- it was seen how the text ends
abbrev pub TextIsOver : ArmourReader → Type 0
TextIsOver r = r.ending ≢ None

-- No group of this text is bad: there is a text that makes it too long, where that follows.
abbrev pub GroupsAreGood : ArmourReader → List ℕ → Type 0
GroupsAreGood r text = (more : List ℕ) × ((reader_outlook r (text ++ more)).end ≡ TooLong)

-- The reader took more of the same text, and handed these bytes on. Whatever follows what came, the
-- bytes of both are these and those that are still to come, and the end is the same; nothing
-- follows where the reader is over and the source saw the end. Behind the end that it saw the
-- reader takes nothing, and it calls a text whole only where the source saw the end of that. No
-- group was bad before it took the last piece.
pub record ArmourReadsOn (before now : SourceState) (old new : ArmourReader)
    (handed : List ℕ) : Type 0 where
  pub text : List ℕ
  pub came : Came before now text
  pub taken : new.pieces.taken ≡ old.pieces.taken + length text
  pub end : (end : TextEnd) → told_end before old ≡ Some end → told_end now new ≡ Some end
  pub over : TextIsOver old → (text ≡ []) × TextIsOver new × (now ≡ before)
  pub seen : old.ending ≡ None → new.ending ≡ Some Whole → now.ended ≡ true
  pub good : (text ≡ []) ⊎ APieceBehind (GroupsAreGood old) text
  pub all : (more : List ℕ) → (TextIsOver new → now.ended ≡ true → more ≡ [])
      → reader_outlook old (text ++ more) ≡ with_front handed (reader_outlook new more)

-- By one read it took a piece at the most, and handed nothing on.
pub record TakesPiece (before now : SourceState) (old new : ArmourReader) : Type 0 where
  pub reads : ArmourReadsOn before now old new []
  pub few : length reads.text ≤ most_piece

-- It took text until some bytes came, and handed none on: what stands before the last piece gives
-- none. Once a read failed, it takes nothing.
pub record Awaits (before now : SourceState) (old new : ArmourReader) (old_faults : ℕ)
    : Type 0 where
  pub reads : ArmourReadsOn before now old new []
  pub last : (reads.text ≡ []) ⊎ APieceBehind (λ front. gives old front ≡ 0) reads.text
  pub stuck : 1 ≤ old_faults → (new ≡ old) × (reads.text ≡ [])

-- All bytes that the text gives were handed on, so many, or its last piece was read for a byte that
-- was handed on.
abbrev pub IsWanted : (old : ArmourReader) → (text : List ℕ) → (handed : ℕ) → Type 0
IsWanted old text handed = (gives old text ≡ handed)
    ⊎ APieceBehind (λ front. gives old front < handed) text

-- all bytes that the text gives were handed on, and no group of it is bad
abbrev pub IsReadSoFar : ArmourReader → Type 0
IsReadSoFar r = (gives r [] ≡ 0) × GroupsAreGood r []

-- how many turns a loop has at the most that takes text: two for each byte, and one for the end
abbrev pub text_turns_left : ArmourReader → ℕ
text_turns_left r = 2 * text_room r + (if is_none r.ending then 1 else 0)

-- A read of the text failed where one of this source failed, and no read had failed before, and
-- only there; at 2^64 - 1 failures this source counts no more of them.
pub record FailsAs (before now : SourceState) (old_faults new_faults : ℕ) : Type 0 where
  pub later : old_faults ≤ new_faults
  pub kept : RoseBy 0 before.faults now.faults
  pub failed : old_faults ≡ 0 → 1 ≤ new_faults → Rose before.faults now.faults
  pub same : new_faults ≡ old_faults → new_faults < 2 ^ 64 - 1 → now.faults ≡ before.faults

-- Where the last read of a source over a reader saw the end, one before did, or the reader saw how
-- the text ends, and all bytes that the text gives were handed on.
abbrev pub EndsAs : ArmourReader → Bool → Bool → Type 0
EndsAs new old_ended new_ended =
    new_ended ≡ true → (old_ended ≡ true) ⊎ (TextIsOver new × (gives new [] ≡ 0))

-- Since the first moment more of the same text was taken, and no more than the bytes that were
-- handed on called for: those that came. Once a read failed, nothing more is taken, all bytes that
-- the text gives were handed on, and no group of it is bad.
pub record Outlasts (before now : SourceState) (old new : ArmourReader)
    (old_given new_given old_faults new_faults : ℕ) (old_came new_came : List ℕ)
    (old_ended new_ended : Bool) : Type 0 where
  pub handed : List ℕ
  pub given : new_given ≡ counted old_given (length handed)
  pub came : new_came ≡ old_came ++ handed
  pub ended : EndsAs new old_ended new_ended
  pub reads : ArmourReadsOn before now old new handed
  pub wanted : (reads.text ≡ []) ⊎ IsWanted old reads.text (length handed)
  pub faults : FailsAs before now old_faults new_faults
  pub stuck : 1 ≤ old_faults → new ≡ old
  pub spent : old_faults ≡ 0 → 1 ≤ new_faults → IsReadSoFar new
