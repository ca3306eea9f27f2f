-- The forms of a JSON keyring file and of its nodes. They are this library's.
use Rattle.std.specs.Prelude.{◌≡◌, ◌≤◌, ℕ, Bool, true, false, ◌+◌, ◌||◌, ◌==◌, not, nat_le, List}
use Rattle.std.specs.Prelude.{length, codes, Option, Some, None, is_some, option_map, if◌then◌else◌}
use Rattle.serde_json.specs.Data.{Data, Items, no_items, item}
use Rattle.serde_json.specs.Find.{get, as_bool, as_str, as_array}
use Rattle.json_values.specs.Values.{◌>>=◌, ◌>>◌, provided, count, member_count, member_number}
use Rattle.json_values.specs.Values.{text_at}
use Rattle.keyring_file.specs.declared.form.Version.{Version}
use Rattle.keyring_file.specs.declared.form.Version.TheVariants.{One, Two}

-- A node: a raw key by its namespace, its name, its key in base64 and whether it is retired; a
-- keyring that is handed over under a name; or a multi-keyring of nodes.
pub data Form : Type 0 where
  RawForm : (namespace name key : List ℕ) (retired : Bool) → Form
  PlugForm : (name : List ℕ) → Form
  MultiForm : (generator : Option Data) (children : Items) → Form

-- the text that the member of this name is, where it has at most 1,024 bytes
abbrev pub short : List ℕ → Option (List ℕ)
short text = do
  provided (nat_le (length text) 1024)
  Some text

unfoldable pub short_text_at : List ℕ → Data → Option (List ℕ)
short_text_at name d = text_at name d >>= short

-- the member that says whether a raw key is retired; version 1 has none
abbrev pub retired_member : Version → Data → Option Data
retired_member One d = None
retired_member Two d = get (codes "retired") d

-- what it says, where it says true or false; a key of which nothing is said isn't retired
abbrev pub is_retired : Option Data → Option Bool
is_retired (Some said) = as_bool said
is_retired None = Some false

-- {"namespace":TEXT,"name":TEXT,"key":TEXT}, and in version 2 maybe "retired"
unfoldable pub raw_form : Version → Data → Option Form
raw_form version d = do
  provided (member_count d == 3 + count (retired_member version d))
  namespace ← short_text_at (codes "namespace") d
  name ← short_text_at (codes "name") d
  key ← text_at (codes "key") d
  retired ← is_retired (retired_member version d)
  Some (RawForm namespace name key retired)

-- TEXT
abbrev pub plug_form : Data → Option Form
plug_form d = option_map PlugForm (as_str d)

-- the nodes of a list; none where the member is absent
abbrev pub children_of : Option Data → Option Items
children_of (Some list) = as_array list
children_of None = Some no_items

abbrev pub is_empty : Items → Bool
is_empty no_items = true
is_empty (item d children) = false

-- there is a generator or a child
abbrev pub has_node : Option Data → Items → Bool
has_node generator children = is_some generator || not (is_empty children)

-- {"generator":NODE,"children":[NODE, ..]}, where each of the two may be absent
unfoldable pub multi_form : Data → Option Form
multi_form d = do
  provided (member_count d == count (get (codes "generator") d) + count (get (codes "children") d))
  children ← children_of (get (codes "children") d)
  provided (has_node (get (codes "generator") d) children)
  Some (MultiForm (get (codes "generator") d) children)

abbrev pub only_form : Version → Option Data → Option Data → Option Data → Option Form
only_form version (Some raw) plug multi = raw_form version raw
only_form version None (Some plug) multi = plug_form plug
only_form version None None (Some multi) = multi_form multi
only_form version None None None = None

-- {"raw":..}, {"plug":..} or {"multi":..}
unfoldable pub form_of : Version → Data → Option Form
form_of version d = do
  provided (member_count d == 1)
  only_form version (get (codes "raw") d) (get (codes "plug") d) (get (codes "multi") d)

-- the multi-keyring of a node has a list of children
abbrev pub lists_children : Data → Bool
lists_children d = is_some (get (codes "multi") d >>= get (codes "children"))

abbrev pub version_of : ℕ → Option Version
version_of n = if n == 1 then Some One else if n == 2 then Some Two else None

-- {"version":1,"ring":NODE} or {"version":2,"ring":NODE}: its version and its node
unfoldable pub ring_of : Data → Option (Version × Data)
ring_of d = do
  provided (member_count d == 2)
  version ← member_number (codes "version") d >>= version_of
  ring ← get (codes "ring") d
  Some (version, ring)

-- What the form of a node keeps: no namespace and no name is too long, and a multi-keyring has a
-- member.
abbrev pub IsFit : Form → Type 0
IsFit (RawForm namespace name key retired) = (length namespace ≤ 1024) × (length name ≤ 1024)
IsFit (PlugForm name) = Unit {0}
IsFit (MultiForm generator children) = has_node generator children ≡ true
