-- What stands in a JSON text (RFC 8259). Of two members of one name the last counts, so an object
-- has each name once.
use Rattle.std.specs.Prelude.{ℕ, Bool, true, false, List, Option, Some, None, option_and_then}
use Rattle.std.specs.Prelude.{if◌then◌else◌}
use Rattle.std.specs.Str.{is_utf8}
use Rattle.serde_json.specs.Data.{Data, Members}
use Rattle.serde_json.specs.Events.{members_len}
use Rattle.serde_json.specs.Find.{get, as_object, as_str, as_number, as_u64}
use Rattle.serde_json.specs.Read.{read}

-- what is found in what was found
infixl 10 ◌>>=◌
abbrev pub ◌>>=◌ : {A B : Type 0} → Option A → (A → Option B) → Option B
(found >>= f) = option_and_then f found

infixl 10 ◌>>◌
abbrev pub ◌>>◌ : {A B : Type 0} → Option A → Option B → Option B
(found >> next) = option_and_then (λ _. next) found

-- where this holds
abbrev pub provided : Bool → Option (Unit {0})
provided true = Some tt
provided false = None

-- the value that the bytes are the text of, where they are one in UTF-8
unfoldable pub json_value : List ℕ → Option Data
json_value bytes = if is_utf8 bytes then read bytes else None

abbrev pub count_of : Option Members → ℕ
count_of (Some members) = members_len members
count_of None = 0

-- how many members an object has; another value has none
unfoldable pub member_count : Data → ℕ
member_count d = count_of (as_object d)

-- one member, or none
abbrev pub count : Option Data → ℕ
count (Some d) = 1
count None = 0

-- how many members of this name there are: one or none
unfoldable pub present : List ℕ → Data → ℕ
present name d = count (get name d)

-- the text that the member of this name is
unfoldable pub text_at : List ℕ → Data → Option (List ℕ)
text_at name d = get name d >>= as_str

-- the number that a member is, where it is one of 64 bits without a point or an exponent
abbrev pub member_number : List ℕ → Data → Option ℕ
member_number name d = get name d >>= as_number >>= as_u64
