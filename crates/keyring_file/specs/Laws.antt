-- What the laws of this crate say.
use Rattle.std.specs.Prelude.{◌≡◌, ◌↔◌, ◌<◌, ◌≤◌, ◌^◌, ℕ, Bool, true, false, List, [], ◌∷◌}
use Rattle.std.specs.Prelude.{◌++◌, length, codes, Option, Some, None, Result, Ok, Err}
use Rattle.std.specs.Str.{IsUtf8}
use Rattle.hex.specs.Hex.{encode_lower, encode_upper}
use Rattle.serde_json.specs.Data.{Data}
use Rattle.esdk_fields.specs.Bytes.{AreBytes}
use Rattle.esdk_fields.specs.declared.refusals.FileRefusal.{FileRefusal}
use Rattle.esdk_fields.specs.declared.refusals.FileRefusal.TheVariants.{NotRaw}
use Rattle.keyring_trait.specs.Wrapping.{WrapKeyValue}
use Rattle.keyring_trait.specs.Keyring.{KeyringMeaning}
use Rattle.multi_keyring.specs.declared.tree.Node.{Node}
use Rattle.multi_keyring.specs.Forest.{Forest, Nil, RawThen, tallest}
use Rattle.multi_keyring.specs.Nodes.{forest}
use Rattle.multi_keyring.specs.Tree.{node_leaves}
use Rattle.keyring_file.specs.declared.plugs.Plug.{Plug}
use Rattle.keyring_file.specs.Counts.{leaves_of, raw_keys, AreOfOneKey}
use Rattle.keyring_file.specs.KeyFile.{is_json, tree_of}
use Rattle.json_values.specs.Values.{member_number}
use Rattle.keyring_file.specs.Migrate.{migration, IsFileOf}
use Rattle.keyring_file.specs.Retired.{retired_in}
use Rattle.keyring_file.specs.RawNodes.{file_nodes, is_raw}
use Rattle.keyring_file.specs.Spelling.{IsLineKey, IsLineEnd, IsKeyLine, line_text}

-- A file that is no JSON file is read as one raw key exactly where it is that key's line.
abbrev pub ReadsKeyLines : Type 0 → Type 0
ReadsKeyLines P = (wraps : P → ℕ) (bytes : List ℕ) (plugs : List (Plug P)) (w : WrapKeyValue)
    → is_json bytes ≡ false → (tree_of wraps bytes plugs ≡ Ok (RawThen w Nil)) ↔ IsKeyLine bytes w

-- A key that a line can have: 32 bytes, and texts for namespace and name, which don't begin as a
-- JSON file does.
pub record HasLine (w : WrapKeyValue) : Type 0 where
  pub key : IsLineKey w
  pub long : length w.key ≡ 32
  pub bytes : AreBytes w.key
  pub namespace : IsUtf8 w.namespace
  pub name : IsUtf8 w.name
  pub plain : is_json (w.namespace ++ 32 ∷ w.name) ≡ false

-- The digits may be written in lower case or in upper case, and a line feed may stand at the end or
-- not: the key is read back.
abbrev pub WrittenLinesAreRead : Type 0 → Type 0
WrittenLinesAreRead P = (wraps : P → ℕ) (plugs : List (Plug P)) (w : WrapKeyValue) (end : List ℕ)
    → HasLine w → IsLineEnd end
    → (tree_of wraps (line_text w (encode_lower w.key) end) plugs ≡ Ok (RawThen w Nil))
    × (tree_of wraps (line_text w (encode_upper w.key) end) plugs ≡ Ok (RawThen w Nil))

-- A tree that is read has at most 8 levels and at most 64 leaves, where a keyring that is handed
-- over counts as many as it wraps.
abbrev pub TreesAreSmall : Type 0 → Type 0
TreesAreSmall P = (wraps : P → ℕ) (bytes : List ℕ) (plugs : List (Plug P)) (tree : Forest P)
    → length plugs < 2 ^ 24 → tree_of wraps bytes plugs ≡ Ok tree
    → (tallest tree ≤ 8) × (leaves_of wraps tree ≤ 64)

-- It has fewer than 2^32 leaves, also where keyrings that are handed over make no entries.
abbrev pub LeavesAreFew : Type 0 → Type 0
LeavesAreFew P =
    (wraps : P → ℕ) (leaf : P → KeyringMeaning) (bytes : List ℕ) (plugs : List (Plug P))
    (node : Node P) → length plugs < 2 ^ 24 → tree_of wraps bytes plugs ≡ Ok (forest (node ∷ []))
    → length (node_leaves leaf node) < 2 ^ 32

-- In a tree that is read, raw keys of one namespace and name are one key.
abbrev pub RawKeysAgree : Type 0 → Type 0
RawKeysAgree P = (wraps : P → ℕ) (bytes : List ℕ) (plugs : List (Plug P)) (tree : Forest P)
    → tree_of wraps bytes plugs ≡ Ok tree → AreOfOneKey (raw_keys tree)

-- A file that is written anew is of version 2. Whichever keyrings are handed over, its tree is the
-- given file's, refusals included, but that the raw key of the number that is meant is retired.
abbrev pub MigrationKeepsTrees : Type 0 → Type 0
MigrationKeepsTrees P =
    (wraps : P → ℕ) (plugs : List (Plug P)) (retire : Option ℕ) (bytes new : List ℕ) (d : Data)
    → migration retire bytes ≡ Ok d → IsFileOf new d
    → (member_number (codes "version") d ≡ Some 2)
    × (tree_of wraps new plugs ≡ retired_in retire (tree_of wraps bytes plugs))

-- The answer where the node of this number is to be retired, from the answer without it: a file,
-- exactly where that is one and the node is a raw key; where it is one and the node isn't, K11; or
-- the same refusal.
abbrev pub RetiresIf : ℕ → (raw : Bool) → Result Data FileRefusal → Type 0
RetiresIf number true answer = (d : Data) × (answer ≡ Ok d)
RetiresIf number false answer = answer ≡ Err (NotRaw number)

abbrev pub RetiresAs : ℕ → (nodes : List Bool) → (kept retired : Result Data FileRefusal) → Type 0
RetiresAs number nodes (Ok d) retired = RetiresIf number (is_raw number nodes) retired
RetiresAs number nodes (Err refusal) retired = retired ≡ Err refusal

-- A key is retired exactly where the file can be written anew and the node is a raw key.
abbrev pub RetiresRawKeys : Type 0
RetiresRawKeys = (number : ℕ) (bytes : List ℕ)
    → RetiresAs number (file_nodes bytes) (migration None bytes) (migration (Some number) bytes)
