-- A keyring file written anew in version 2, where one raw key may be retired. The form is this
-- library's.
use Rattle.std.specs.Prelude.{◌≡◌, ℕ, zero, suc, Bool, true, false, ◌||◌, ◌==◌, List, [], ◌∷◌, ◌++◌}
use Rattle.std.specs.Prelude.{codes, Option, Some, None, Result, Ok, Err, if◌then◌else◌}
use Rattle.base64.specs.GeneralPurpose.{encode_of}
use Rattle.base64.specs.Engines.{standard}
use Rattle.serde_json.specs.Data.{Data, boolean, number, unsigned, string, array, object, Items}
use Rattle.serde_json.specs.Data.{no_items, item, Members, no_members, member, put}
use Rattle.serde_json.specs.Written.{compact_text}
use Rattle.serde_json.specs.View.{view}
use Rattle.serde_json.specs.declared.value.Value.{Value}
use Rattle.esdk_fields.specs.declared.refusals.FileRefusal.{FileRefusal}
use Rattle.esdk_fields.specs.declared.refusals.FileRefusal.TheVariants.{NotJson, BadShape, TooDeep}
use Rattle.esdk_fields.specs.declared.refusals.FileRefusal.TheVariants.{NotRaw}
use Rattle.keyring_trait.specs.Wrapping.{WrapKeyValue}
use Rattle.json_values.specs.declared.errors.ReadError.{ReadError}
use Rattle.json_values.specs.declared.errors.ReadError.TheVariants.{File, Memory}
use Rattle.json_values.specs.Values.{json_value}
use Rattle.keyring_file.specs.declared.form.Version.{Version}
use Rattle.keyring_file.specs.KeyLine.{key_line}
use Rattle.keyring_file.specs.KeyFile.{is_json, nothing_met}
use Rattle.keyring_file.specs.Form.{Form, RawForm, PlugForm, MultiForm, form_of, ring_of}
use Rattle.keyring_file.specs.Form.{lists_children}
use Rattle.keyring_file.specs.Walk.{Met, ◌>>=◌, ◌>>◌, Walk, walk_done, walk_or_refuse}
use Rattle.keyring_file.specs.Walk.{next_node_number, count_leaves}
use Rattle.keyring_file.specs.Leaves.{raw_key}
use Rattle.keyring_file.specs.Plain.{IsPlainObject}

-- ---- the nodes of version 2, the members of each in the order of their names

-- an object of this one member
abbrev pub one_member : List ℕ → Data → Data
one_member name d = object (member name d no_members)

-- the member "retired", which stands only where it is true
abbrev pub said_retired : Bool → Members
said_retired true = member (codes "retired") (boolean true) no_members
said_retired false = no_members

abbrev pub raw_node : (namespace name text : List ℕ) (retired : Bool) → Data
raw_node namespace name text retired =
    one_member (codes "raw")
    (object
    (member (codes "key") (string text)
    (member (codes "name") (string name)
    (member (codes "namespace") (string namespace) (said_retired retired)))))

abbrev pub plug_node : List ℕ → Data
plug_node name = one_member (codes "plug") (string name)

-- a member that may be absent, and those behind it
abbrev pub member_if : List ℕ → Option Data → Members → Members
member_if name (Some d) members = member name d members
member_if name None members = members

abbrev pub multi_node : (generator children : Option Data) → Data
multi_node generator children =
    one_member (codes "multi")
    (object
    (member_if (codes "children") children (member_if (codes "generator") generator no_members)))

-- {"ring":NODE,"version":2}
abbrev pub version_2_file : Data → Data
version_2_file node =
    object (member (codes "ring") node (member (codes "version") (number (unsigned 2)) no_members))

-- the members, with this value, if there is one, at the name
abbrev pub put_if : List ℕ → Option Data → Members → Members
put_if name (Some d) members = put name d members
put_if name None members = members

-- ---- the nodes of a file, met one after the other

-- the node of this number is the one that is to be retired
abbrev pub is_at : ℕ → Option ℕ → Bool
is_at place (Some n) = place == n
is_at place None = false

abbrev pub list_if : Bool → Items → Option Data
list_if true ds = Some (array ds)
list_if false ds = None

-- these nodes in version 2, and whether the raw key that is to be retired is among them
unfoldable pub migrated_row : {P : Type 0} → (Data → Walk P (Data × Bool)) → Items
    → Walk P (Items × Bool)
migrated_row migrated no_items = walk_done (no_items, false)
migrated_row migrated (item d ds) = do
  first ← migrated d
  others ← migrated_row migrated ds
  walk_done (item first.0 others.0, first.1 || others.1)

-- the same of a node that may be absent
abbrev pub migrated_optional : {P : Type 0} → (Data → Walk P (Data × Bool)) → Option Data
    → Walk P (Option Data × Bool)
migrated_optional migrated (Some d) = do
  node ← migrated d
  walk_done (Some node.0, node.1)
migrated_optional migrated None = walk_done (None, false)

-- A multi-keyring. A list of children stays absent where it is absent.
unfoldable pub migrated_multi : {P : Type 0} → (Data → Walk P (Data × Bool)) → Bool → Option Data
    → Items → Walk P (Data × Bool)
migrated_multi migrated listed generator children = do
  first ← migrated_optional migrated generator
  others ← migrated_row migrated children
  walk_done (multi_node first.0 (list_if listed others.0), first.1 || others.1)

-- A raw key is refused as in a tree; a keyring that is handed over counts as one leaf, whether
-- there is one of its name or not.
abbrev pub migrated_form : {P : Type 0} → Option ℕ → (Data → Walk P (Data × Bool)) → ℕ → Bool → Form
    → Walk P (Data × Bool)
migrated_form retire migrated place listed (RawForm namespace name text retired) = do
  raw_key place namespace name text
  walk_done (raw_node namespace name text (is_at place retire || retired), is_at place retire)
migrated_form retire migrated place listed (PlugForm name) = do
  count_leaves 1
  walk_done (plug_node name, false)
migrated_form retire migrated place listed (MultiForm generator children) =
    migrated_multi migrated listed generator children

-- A node, which may have so many levels, in version 2, and whether the raw key that is to be
-- retired stands in it. Nodes are numbered and refused as in a tree.
unfoldable pub migrated : {P : Type 0} → Option ℕ → Version → (levels : ℕ) → Data
    → Walk P (Data × Bool)
migrated retire version zero d = do
  place ← next_node_number
  form ← walk_or_refuse (BadShape place) (form_of version d)
  walk_or_refuse TooDeep None
migrated retire version (suc levels) d = do
  place ← next_node_number
  form ← walk_or_refuse (BadShape place) (form_of version d)
  migrated_form retire (migrated retire version levels) place (lists_children d) form

-- ---- the whole file

-- the file of this node; K11, where the raw key that is to be retired isn't in it
abbrev pub file_with : Option ℕ → Data → Bool → Result Data FileRefusal
file_with None node found = Ok (version_2_file node)
file_with (Some n) node true = Ok (version_2_file node)
file_with (Some n) node false = Err (NotRaw n)

abbrev pub file_walked : {P : Type 0} → Option ℕ → Result ((Data × Bool) × Met P) FileRefusal
    → Result Data FileRefusal
file_walked retire (Ok x) = file_with retire x.0.0 x.0.1
file_walked retire (Err refusal) = Err refusal

-- K2, at the file's own place, where the file has no ring
abbrev pub ring_migration : Option ℕ → Option (Version × Data) → Result Data FileRefusal
ring_migration retire (Some (version, node)) =
    file_walked retire (migrated retire version 8 node (nothing_met {P = Unit {0}} []))
ring_migration retire None = Err (BadShape 0)

-- K1, where the file is no JSON
abbrev pub json_migration : Option ℕ → Option Data → Result Data FileRefusal
json_migration retire (Some file) = ring_migration retire (ring_of file)
json_migration retire None = Err NotJson

-- A key line becomes one raw node, which is retired where it is the one that is to be.
abbrev pub line_migration : Option ℕ → Result WrapKeyValue FileRefusal → Result Data FileRefusal
line_migration retire (Ok w) =
    file_with retire (raw_node w.namespace w.name (encode_of standard w.key) (is_at 1 retire))
    (is_at 1 retire)
line_migration retire (Err refusal) = Err refusal

-- The value of a keyring file in version 2, where the raw key of this number is retired, if one is
-- named; or the first refusal.
unfoldable pub migration : Option ℕ → List ℕ → Result Data FileRefusal
migration retire bytes =
    if is_json bytes then json_migration retire (json_value bytes)
    else line_migration retire (key_line bytes)

-- The bytes are the compact text of this value and a line feed, a JSON file that is read as the
-- value.
pub record IsFileOf (bytes : List ℕ) (d : Data) : Type 0 where
  pub text : bytes ≡ compact_text d ++ 10 ∷ []
  pub json : is_json bytes ≡ true
  pub value : json_value bytes ≡ Some d

-- This value, which can be written, or this refusal; want of memory may come at any time.
abbrev pub MakesKeyringFile : Result Value ReadError → Result Data FileRefusal → Type 0
MakesKeyringFile (Ok file) reading = (reading ≡ Ok (view file)) × IsPlainObject (view file)
MakesKeyringFile (Err (File refusal)) reading = reading ≡ Err refusal
MakesKeyringFile (Err Memory) reading = Unit {0}

-- the file of this value, or this refusal
abbrev pub Migrates : Result (List ℕ) ReadError → Result Data FileRefusal → Type 0
Migrates (Ok bytes) reading = (d : Data) × (reading ≡ Ok d) × IsFileOf bytes d
Migrates (Err (File refusal)) reading = reading ≡ Err refusal
Migrates (Err Memory) reading = Unit {0}
