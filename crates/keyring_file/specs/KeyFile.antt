-- A keyring file. A JSON file is one whose first byte is a brace, but for blanks; any other file is
-- a key line. The form is this library's.
use Rattle.std.specs.Prelude.{◌≡◌, ℕ, Bool, false, ◌||◌, ◌==◌, List, [], ◌∷◌, Option, Some, None}
use Rattle.std.specs.Prelude.{⊤, Result, Ok, Err, IsOk, if◌then◌else◌}
use Rattle.esdk_fields.specs.declared.refusals.FileRefusal.{FileRefusal}
use Rattle.esdk_fields.specs.declared.refusals.FileRefusal.TheVariants.{NotJson, BadShape}
use Rattle.keyring_trait.specs.Wrapping.{WrapKeyValue}
use Rattle.serde_json.specs.Data.{Data}
use Rattle.multi_keyring.specs.declared.tree.Node.{Node}
use Rattle.multi_keyring.specs.Forest.{Forest, Nil, RawThen}
use Rattle.multi_keyring.specs.Nodes.{forest}
use Rattle.json_values.specs.declared.errors.ReadError.{ReadError}
use Rattle.json_values.specs.declared.errors.ReadError.TheVariants.{File, Memory}
use Rattle.json_values.specs.Values.{json_value}
use Rattle.keyring_file.specs.declared.plugs.Plug.{Plug}
use Rattle.keyring_file.specs.declared.form.Version.{Version}
use Rattle.keyring_file.specs.KeyLine.{key_line}
use Rattle.keyring_file.specs.Form.{ring_of}
use Rattle.keyring_file.specs.Walk.{Met}
use Rattle.keyring_file.specs.Tree.{tree}

-- a space, a tab, a line feed or a carriage return
abbrev pub is_blank : ℕ → Bool
is_blank b = b == 32 || b == 9 || b == 10 || b == 13

-- the first byte that is no blank is a brace
unfoldable pub is_json : List ℕ → Bool
is_json [] = false
is_json (b ∷ bytes) = if is_blank b then is_json bytes else b == 123

-- A key line means the tree of its one raw key.
abbrev pub line_tree : {P : Type 0} → Result WrapKeyValue FileRefusal
    → Result (Forest P) FileRefusal
line_tree (Ok w) = Ok (RawThen w Nil)
line_tree (Err refusal) = Err refusal

-- what was read, without what was met
abbrev pub only_tree : {P : Type 0} → Result (Forest P × Met P) FileRefusal
    → Result (Forest P) FileRefusal
only_tree (Ok read) = Ok read.0
only_tree (Err refusal) = Err refusal

-- before the first node
abbrev pub nothing_met : {P : Type 0} → List (Plug P) → Met P
nothing_met plugs = record { nodes = 0; leaves = 0; keys = []; plugs = plugs }

-- K2, at the file's own place, where the file has another form than {"version":1,"ring":NODE}, with
-- 1 or 2; then what its node means, which may have 8 levels
abbrev pub node_tree : {P : Type 0} → (P → ℕ) → List (Plug P) → Option (Version × Data)
    → Result (Forest P) FileRefusal
node_tree wraps plugs (Some (version, node)) =
    only_tree (tree wraps version 8 node (nothing_met plugs))
node_tree wraps plugs None = Err (BadShape 0)

-- K1, where the file is no JSON
abbrev pub json_tree : {P : Type 0} → (P → ℕ) → List (Plug P) → Option Data
    → Result (Forest P) FileRefusal
json_tree wraps plugs (Some file) = node_tree wraps plugs (ring_of file)
json_tree wraps plugs None = Err NotJson

-- The tree that a file means, where these keyrings are handed over and each counts as so many
-- leaves; or the first refusal.
unfoldable pub tree_of : {P : Type 0} → (wraps : P → ℕ) → (bytes : List ℕ) → (plugs : List (Plug P))
    → Result (Forest P) FileRefusal
tree_of wraps bytes plugs =
    if is_json bytes then json_tree wraps plugs (json_value bytes) else line_tree (key_line bytes)

-- This tree, or this refusal; want of memory may come at any time.
abbrev pub FileAnswers : {P : Type 0} → Result (Node P) ReadError → Result (Forest P) FileRefusal
    → Type 0
FileAnswers (Ok node) reading = reading ≡ Ok (forest (node ∷ []))
FileAnswers (Err (File refusal)) reading = reading ≡ Err refusal
FileAnswers (Err Memory) reading = Unit {0}

-- The same for a key line; want of memory comes only where it isn't refused.
abbrev pub AnswersKey : Result WrapKeyValue ReadError → Result WrapKeyValue FileRefusal → Type 0
AnswersKey (Ok key) reading = reading ≡ Ok key
AnswersKey (Err (File refusal)) reading = reading ≡ Err refusal
AnswersKey (Err Memory) reading = IsOk reading

-- so want of memory isn't told of a file that is a key line and is refused
abbrev pub MemoryCause : (bytes : List ℕ) → ReadError → Type 0
MemoryCause bytes (File refusal) = ⊤
MemoryCause bytes Memory = is_json bytes ≡ false → IsOk (key_line bytes)
