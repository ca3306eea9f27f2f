-- What is to come of a text that is read as armour, and how it ends.
use Rattle.std.specs.Prelude.{ℕ, ◌-◌, ◌^◌, ◌==◌, nat_le, min, List, ◌++◌, length, take, Bool, true}
use Rattle.std.specs.Prelude.{false, Option, Some, None, if◌then◌else◌}
use Rattle.esdk_base.specs.Streams.{most_input}
use Rattle.armour_core.specs.declared.text_end.TextEnd.{TextEnd}
use Rattle.armour_core.specs.declared.text_end.TextEnd.TheVariants.{Bad, TooLong, Whole}
use Rattle.armour_core.specs.declared.unarmour.Unarmour.{Unarmour}
use Rattle.armour_core.specs.Unarmoured.{GroupsRead, characters, group_count, groups_read}
use Rattle.armour_core.specs.Unarmoured.{unarmoured}
use Rattle.armour_core.specs.Stands.{OpenGroup, open_from}

-- The bytes that a text gives, and how it ends.
pub record Outlook : Type 0 where
  pub bytes : List ℕ
  pub end : TextEnd

-- a group of this number, or 2^64 - 1 where that is greater, is bad or the last and short
abbrev pub bad_end : ℕ → TextEnd
bad_end number = Bad (min number (2 ^ 64 - 1))

-- ---- a whole text

-- how a text ends: at the first bad group; else where so many bytes of it were taken that no more
-- are; else at a short group, or it is whole
abbrev pub end_of : Option ℕ → Bool → Bool → ℕ → TextEnd
end_of (Some number) long short count = bad_end number
end_of None true short count = TooLong
end_of None false true count = bad_end count
end_of None false false count = Whole

-- no more than 2^62 bytes of a text are taken
abbrev pub taken_front : List ℕ → List ℕ
taken_front text = take most_input text

-- a text from its start
unfoldable pub text_outlook : List ℕ → Outlook
text_outlook text = record {
  bytes = (unarmoured (taken_front text)).bytes;
  end = end_of (unarmoured (taken_front text)).bad (nat_le most_input (length text))
      (unarmoured (taken_front text)).short (group_count (taken_front text));
}

-- ---- the rest of one

-- the open group of a reader
abbrev pub open_of : Unarmour → OpenGroup
open_of unarmour = record {
  number = unarmour.number;
  padded = unarmour.padded;
  held = take unarmour.held unarmour.group;
}

-- what is read where more characters come behind an open group, and the group that is open then
abbrev pub read_on : OpenGroup → List ℕ → GroupsRead
read_on o more = groups_read o.number o.padded (o.held ++ more)

abbrev pub open_on : OpenGroup → List ℕ → OpenGroup
open_on o more = open_from o.number o.padded (o.held ++ more)

-- some characters are held
abbrev pub holds_some : OpenGroup → Bool
holds_some o = if length o.held == 0 then false else true

-- this text behind an open group
unfoldable pub read_out : OpenGroup → List ℕ → Bool → Outlook
read_out o text long = record {
  bytes = (read_on o (characters text)).bytes;
  end = end_of (read_on o (characters text)).bad long (holds_some (open_on o (characters text)))
      (open_on o (characters text)).number;
}

-- these bytes first
abbrev pub with_front : List ℕ → Outlook → Outlook
with_front front rest = record rest { bytes = front ++ rest.bytes }
