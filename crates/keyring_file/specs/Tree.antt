-- The tree that a JSON keyring file means. The form and its refusals are this library's.
use Rattle.std.specs.Prelude.{ℕ, zero, suc, Bool, Option, Some, None, is_some}
use Rattle.serde_json.specs.Data.{Data, Items, no_items, item}
use Rattle.esdk_fields.specs.declared.refusals.FileRefusal.TheVariants.{BadShape, TooDeep}
use Rattle.multi_keyring.specs.Forest.{Forest, Nil, RawThen, HandedThen, MultiThen}
use Rattle.keyring_file.specs.declared.form.Version.{Version}
use Rattle.keyring_file.specs.Leaves.{raw_leaf, plug_leaf}
use Rattle.keyring_file.specs.Form.{Form, RawForm, PlugForm, MultiForm, form_of}
use Rattle.keyring_file.specs.Walk.{◌>>=◌, Walk, walk_done, walk_or_refuse, next_node_number}

-- the trees of two rows, one row behind the other
abbrev pub rows_beside : {P : Type 0} → Forest P → Forest P → Forest P
rows_beside Nil row = row
rows_beside (RawThen w rest) row = RawThen w (rows_beside rest row)
rows_beside (HandedThen p rest) row = HandedThen p (rows_beside rest row)
rows_beside (MultiThen has members rest) row = MultiThen has members (rows_beside rest row)

-- the trees of these nodes, one after the other
unfoldable pub row : {P : Type 0} → (Data → Walk P (Forest P)) → Items → Walk P (Forest P)
row tree no_items = walk_done Nil
row tree (item d ds) = do
  first ← tree d
  others ← row tree ds
  walk_done (rows_beside first others)

-- the tree of a node that may be absent
abbrev pub optional : {P : Type 0} → (Data → Walk P (Forest P)) → Option Data → Walk P (Forest P)
optional tree (Some d) = tree d
optional tree None = walk_done Nil

-- A multi-keyring: its generator, then its children, each with what is below it.
unfoldable pub multi : {P : Type 0} → (Data → Walk P (Forest P)) → Option Data → Items
    → Walk P (Bool × Forest P)
multi tree generator children = do
  first ← optional tree generator
  others ← row tree children
  walk_done (is_some generator, rows_beside first others)

abbrev pub formed : {P : Type 0} → (P → ℕ) → (Data → Walk P (Forest P)) → ℕ → Form
    → Walk P (Forest P)
formed wraps tree place (RawForm namespace name text retired) = do
  w ← raw_leaf place namespace name text retired
  walk_done (RawThen w Nil)
formed wraps tree place (PlugForm name) = do
  keyring ← plug_leaf wraps name
  walk_done (HandedThen keyring Nil)
formed wraps tree place (MultiForm generator children) = do
  members ← multi tree generator children
  walk_done (MultiThen members.0 members.1 Nil)

-- The tree of a node, which may have so many levels. K2 at its number where it has none of the
-- three forms; then K6 where no level is left for it.
unfoldable pub tree : {P : Type 0} → (P → ℕ) → Version → (levels : ℕ) → Data → Walk P (Forest P)
tree wraps version zero d = do
  place ← next_node_number
  form ← walk_or_refuse (BadShape place) (form_of version d)
  walk_or_refuse TooDeep None
tree wraps version (suc levels) d = do
  place ← next_node_number
  form ← walk_or_refuse (BadShape place) (form_of version d)
  formed wraps (tree wraps version levels) place form
