-- What a text gives that is read as armour. Standard: RFC 4648, section 4: with padding, no
-- characters beside those of the alphabet, and no bits left over. Line feeds and carriage returns
-- are passed over.
use Rattle.std.specs.Prelude.{ℕ, ◌+◌, ◌%◌, ◌/◌, ◌==◌, Bool, true, false, not, ◌&&◌, List, [], ◌∷◌}
use Rattle.std.specs.Prelude.{◌++◌, length, Option, Some, None}
use Rattle.std.specs.List.{filter}
use Rattle.base64.specs.GeneralPurpose.{decoded_of}
use Rattle.base64.specs.Engines.{standard}

-- neither a line feed nor a carriage return
abbrev pub is_character : ℕ → Bool
is_character byte = not (byte == 10) && not (byte == 13)

-- the characters of a text
abbrev pub characters : List ℕ → List ℕ
characters text = filter is_character text

-- `=`
abbrev pub padding : ℕ
padding = 61

-- The bytes of the whole groups before the first bad one, and that one's number, if there is one.
pub record GroupsRead : Type 0 where
  pub bytes : List ℕ
  pub bad : Option ℕ

abbrev pub none_read : GroupsRead
none_read = record { bytes = []; bad = None }

-- the group of this number is bad
abbrev pub bad_at : ℕ → GroupsRead
bad_at number = record { bytes = []; bad = Some number }

-- these bytes, and then what is read behind them
abbrev pub groups_behind : List ℕ → GroupsRead → GroupsRead
groups_behind bytes read = record { bytes = bytes ++ read.bytes; bad = read.bad }

-- a group of four characters, which is the base64 of 1 to 3 bytes or bad, and what is read behind
-- it
abbrev pub group_then : ℕ → Option (List ℕ) → GroupsRead → GroupsRead
group_then number None after = bad_at number
group_then number (Some bytes) after = groups_behind bytes after

-- Characters in groups of four, of which the first has this number: one is bad where it isn't
-- base64, and at its first character where an earlier group had padding.
unfoldable pub groups_read : ℕ → Bool → List ℕ → GroupsRead
groups_read number padded [] = none_read
groups_read number true (a ∷ rest) = bad_at number
groups_read number false (a ∷ b ∷ c ∷ d ∷ rest) =
    group_then number (decoded_of standard (a ∷ b ∷ c ∷ d ∷ []))
    (groups_read (number + 1) (d == padding) rest)
groups_read number false short = none_read

-- What a text gives: the bytes of the whole groups before the first bad one; the number of that
-- group, counted from 1, if there is one; and whether the last group is short.
pub record Unarmoured : Type 0 where
  pub bytes : List ℕ
  pub bad : Option ℕ
  pub short : Bool

unfoldable pub unarmoured : List ℕ → Unarmoured
unarmoured text = record {
  bytes = (groups_read 1 false (characters text)).bytes;
  bad = (groups_read 1 false (characters text)).bad;
  short = not (length (characters text) % 4 == 0);
}

-- how many groups a text has, the last one short or not
abbrev pub group_count : List ℕ → ℕ
group_count text = (length (characters text) + 3) / 4
