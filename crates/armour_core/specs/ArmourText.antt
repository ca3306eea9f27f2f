-- Bytes as armour text. Standard: RFC 4648, section 4, with padding; the lines are those of MIME
-- (RFC 2045, section 6.8), each ended by a line feed alone.
use Rattle.std.specs.Prelude.{ℕ, zero, suc, ◌+◌, ◌/◌, List, [], ◌∷◌, ◌++◌, length, take, drop}
use Rattle.base64.specs.GeneralPurpose.{encode_of}
use Rattle.base64.specs.Engines.{standard}

abbrev pub line_feed : ℕ
line_feed = 10

-- so many lines of these characters: each is the next 76, or as many as are left, and a line feed
unfoldable pub in_lines : ℕ → List ℕ → List ℕ
in_lines zero characters = []
in_lines (suc count) characters =
    take 76 characters ++ line_feed ∷ in_lines count (drop 76 characters)

-- all of these characters, in as many lines as they fill or begin
abbrev pub all_in_lines : List ℕ → List ℕ
all_in_lines characters = in_lines ((length characters + 75) / 76) characters

-- the base64 of the bytes, in lines of 76 characters, the last one of 1 to 76; nothing of no bytes
unfoldable pub armour_text : List ℕ → List ℕ
armour_text bytes = all_in_lines (encode_of standard bytes)
