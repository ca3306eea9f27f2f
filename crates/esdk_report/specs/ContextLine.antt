-- A context as compact JSON.
use Rattle.std.specs.Prelude.{ℕ, List, [], ◌∷◌, ◌++◌, Bool}
use Rattle.json.specs.Print.{quoted}
use Rattle.serde_json.specs.Data.{object, string, Members, no_members, member}
use Rattle.serde_json.specs.Written.{comma_if, compact_text}
use Rattle.context_codec.specs.Context.{KeyValue}

-- the pairs as the members of a JSON object, in their order
abbrev pub members_of : List KeyValue → Members
members_of [] = no_members
members_of (pair ∷ pairs) = member pair.0 (string pair.1) (members_of pairs)

-- the context as compact JSON, as `serde_json` writes it
unfoldable pub context_json : List KeyValue → List ℕ
context_json pairs = compact_text (object (members_of pairs))

-- a comma where a member stands before, the key, a colon and the value
unfoldable pub member_text : Bool → KeyValue → List ℕ
member_text later pair = comma_if later ++ quoted pair.0 ++ 58 ∷ [] ++ quoted pair.1
