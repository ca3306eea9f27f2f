-- The listing of a header: lines of a name, a colon and a space, and what the header says of it.
use Rattle.std.specs.Prelude.{ℕ, ◌+◌, List, [], ◌∷◌, ◌++◌, length, codes, decimal}
use Rattle.std.specs.Int.{w16}
use Rattle.hex.specs.Hex.{encode_lower}
use Rattle.esdk_fields.specs.Numbers.{to_big_endian}
use Rattle.esdk_fields.specs.declared.contents.Content.{Content}
use Rattle.esdk_fields.specs.declared.contents.Content.TheVariants.{Single, Framed}
use Rattle.suite_table.specs.declared.suite.Suite.{Suite}
use Rattle.suite_table.specs.declared.suite.Suite.TheVariants.{Committing, Uncommitted}
use Rattle.suite_table.specs.Suites.{format_version, suite_id}
use Rattle.edk_codec.specs.Entry.{Entry}
use Rattle.header_codec.specs.Header.{HeaderValue, frame_length}
use Rattle.esdk_report.specs.ContextLine.{context_json}

-- one line of the listing
unfoldable pub line : List ℕ → List ℕ → List ℕ
line name text = name ++ codes ": " ++ text ++ 10 ∷ []

-- the parts of an encrypted data key, in hexadecimal
unfoldable pub entry_text : Entry → List ℕ
entry_text entry =
    codes "provider=" ++ encode_lower entry.provider ++ codes " info=" ++ encode_lower entry.info
    ++ codes " ciphertext=" ++ encode_lower entry.cipher

-- the line of the encrypted data key with this number
unfoldable pub entry_line : ℕ → Entry → List ℕ
entry_line number entry = line (codes "data-key " ++ decimal number) (entry_text entry)

-- the lines of the encrypted data keys, numbered from this number on
abbrev pub entry_lines : ℕ → List Entry → List ℕ
entry_lines number [] = []
entry_lines number (entry ∷ entries) = entry_line number entry ++ entry_lines (number + 1) entries

-- how the content is cut, in a word
abbrev pub content_word : Content → List ℕ
content_word Single = codes "single"
content_word (Framed n) = codes "framed"

-- the lines before those of the data keys
unfoldable pub opening_lines : HeaderValue → List ℕ
opening_lines h =
    line (codes "version") (decimal (format_version h.suite))
    ++ line (codes "suite") (encode_lower (to_big_endian w16 (suite_id h.suite)))
    ++ line (codes "message-id") (encode_lower h.message_id)
    ++ line (codes "context") (context_json h.stored)
    ++ line (codes "data-keys") (decimal (length h.entries))

-- the line of what only one of the two formats has: the commitment to the data key, or the header's
-- initialization vector
abbrev pub format_line : Suite → HeaderValue → List ℕ
format_line Committing h = line (codes "commitment") (encode_lower h.commitment)
format_line Uncommitted h = line (codes "iv") (encode_lower h.iv)

-- the lines behind them
unfoldable pub closing_lines : HeaderValue → List ℕ
closing_lines h =
    line (codes "content") (content_word h.content)
    ++ line (codes "frame-length") (decimal (frame_length h.content))
    ++ format_line h.suite h
    ++ line (codes "tag") (encode_lower h.tag)

-- the whole listing
unfoldable pub list_of : HeaderValue → List ℕ
list_of h = opening_lines h ++ entry_lines 1 h.entries ++ closing_lines h
