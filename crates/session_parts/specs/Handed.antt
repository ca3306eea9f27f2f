-- Bytes of a message that a caller hands over.
use Rattle.std.specs.Prelude.{ℕ, List, [], ◌∷◌, length, Bool, codes, if◌then◌else◌}
use Rattle.std.specs.List.{All}
use Rattle.esdk_fields.specs.Counts.{counted}
use Rattle.esdk_seen.specs.Calls.{ShelfCall, announces, reads}
use Rattle.whole_input.specs.FileReads.{AgreesWithCall}
use Rattle.session_parts.specs.declared.handed_bytes.HandedBytes.{HandedBytes}

-- Those that the message begins with, and a part of it: those that stand from an offset on; and
-- whether the message ends behind the part.
pub record HandedPart : Type 0 where
  pub front : List ℕ
  pub offset : ℕ
  pub part : List ℕ
  pub ends : Bool

abbrev pub handed_of : HandedBytes → HandedPart
handed_of b =
    record { front = b.front.now; offset = b.offset; part = b.part.now; ends = b.ends }

-- where the part ends
abbrev pub part_end : HandedPart → ℕ
part_end h = counted h.offset (length h.part)

-- the message, as a file's name
abbrev pub the_message : List ℕ
the_message = codes "message"

-- where the message is said to end behind the part, a read there that gave nothing
abbrev pub end_note : HandedPart → ShelfCall
end_note h = if h.ends then reads the_message (part_end h) [] else announces the_message

-- What is handed over, as reads of the message: from its front, from the offset, and of its end. So
-- a front or a part of no bytes says that the message has none from there on.
abbrev pub notes_of : HandedPart → List ShelfCall
notes_of h = reads the_message 0 h.front ∷ reads the_message h.offset h.part ∷ end_note h ∷ []

-- the message has just these bytes there
abbrev pub HasHanded : HandedPart → List ℕ → Type 0
HasHanded h message = All (AgreesWithCall the_message message) (notes_of h)
