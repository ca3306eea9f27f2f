-- Which nodes of a keyring file are raw keys. Nodes have numbers from 1 in the order in which they
-- are met: a node, then those below it, then those behind it.
use Rattle.std.specs.Prelude.{ℕ, zero, suc, Bool, true, false, List, [], ◌∷◌, ◌++◌, slice_index_or}
use Rattle.std.specs.Prelude.{Option, Some, None, if◌then◌else◌}
use Rattle.serde_json.specs.Data.{Data, Items, no_items, item}
use Rattle.json_values.specs.Values.{json_value}
use Rattle.keyring_file.specs.declared.form.Version.{Version}
use Rattle.keyring_file.specs.Form.{Form, RawForm, PlugForm, MultiForm, form_of, ring_of}
use Rattle.keyring_file.specs.KeyFile.{is_json}

-- of nodes in a row, and what is below them
abbrev pub row_nodes : (Data → List Bool) → Items → List Bool
row_nodes below no_items = []
row_nodes below (item d ds) = below d ++ row_nodes below ds

-- of a node that may be absent
abbrev pub optional_nodes : (Data → List Bool) → Option Data → List Bool
optional_nodes below (Some d) = below d
optional_nodes below None = []

abbrev pub form_nodes : (Data → List Bool) → Option Form → List Bool
form_nodes below (Some (RawForm namespace name key retired)) = true ∷ []
form_nodes below (Some (PlugForm name)) = false ∷ []
form_nodes below (Some (MultiForm generator children)) =
    false ∷ (optional_nodes below generator ++ row_nodes below children)
form_nodes below None = []

-- Of a node, which may have so many levels, and those below it: whether each is a raw key.
unfoldable pub node_nodes : Version → (levels : ℕ) → Data → List Bool
node_nodes version zero d = []
node_nodes version (suc levels) d = form_nodes (node_nodes version levels) (form_of version d)

abbrev pub ring_nodes : Option (Version × Data) → List Bool
ring_nodes (Some (version, node)) = node_nodes version 8 node
ring_nodes None = []

abbrev pub json_nodes : Option Data → List Bool
json_nodes (Some file) = ring_nodes (ring_of file)
json_nodes None = []

-- Of the nodes of a file: whether each is a raw key. A key line is one.
unfoldable pub file_nodes : List ℕ → List Bool
file_nodes bytes = if is_json bytes then json_nodes (json_value bytes) else true ∷ []

-- The node of this number, counted from 1, is a raw key.
abbrev pub is_raw : ℕ → List Bool → Bool
is_raw number nodes = slice_index_or (false ∷ nodes) number false
