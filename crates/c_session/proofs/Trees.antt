-- The tree of a keyring file tells its keys, and these are as many as its leaves.
use Rattle.std.proofs.Common.{◌≡◌, ◌∙◌, ◌<◌, ◌≤◌, ℕ, nat_lt, Bool, true, false, List, [], ◌∷◌, ◌++◌, length, map, Some, refl, sym, ap, arith}
use Rattle.std.specs.Prelude.{◌^◌, Ok, if◌then◌else◌, unwrap_or}
use Rattle.std.proofs.lemmas.Bool.{le-ltb}
use Rattle.std.proofs.lemmas.List.{length-map, map-append}
use Rattle.context_codec.specs.Context.{KeyValue}
use Rattle.header_codec.specs.Header.{HeaderValue}
use Rattle.keyring_trait.specs.Keyring.{KeyringMeaning}
use Rattle.keyring_trait.specs.Wrapping.{WrapKeyValue}
use Rattle.raw_aes_keyring.specs.Keyring.{raw_meaning}
use Rattle.multi_keyring.specs.declared.tree.Node.TheVariants.{Raw, Handed, Multi}
use Rattle.multi_keyring.specs.Forest.{Forest, Nil, RawThen, HandedThen, MultiThen}
use Rattle.multi_keyring.specs.Nodes.{forest}
use Rattle.multi_keyring.specs.Tree.{all_faults, all_keys, all_wraps, leaves, meanings, node_leaves, tree_meaning}
use Rattle.multi_keyring.proofs.Leaves.{tells_its_leaves}
use Rattle.keyring_file.specs.declared.plugs.Plug.{Plug}
use Rattle.keyring_file.specs.Counts.{leaves_of}
use Rattle.keyring_file.specs.Found.{wraps_of}
use Rattle.keyring_file.specs.KeyFile.{tree_of}
use Rattle.keyring_file.proofs.Files.{file_is_low, leaves_few}
use Rattle.audit_core.specs.Asking.{NamesOpeners}
use Rattle.audit_core.specs.Laws.{told_by}
use Rattle.audit_core.proofs.Told.{names_what_opens}
use Rattle.c_session.specs.FileTree.{HasFew, NamesLeaves, Tree, leaf_keys}

-- ---- the keys are told

abbrev of_raw : WrapKeyValue → ℕ
of_raw = wraps_of raw_meaning

-- These keyrings make at most so many entries, and tell these keys.
record AreTold (most : ℕ) (rings : List KeyringMeaning) : Type 0 where
  few : all_wraps rings ≤ most
  keys : List WrapKeyValue
  told : all_keys rings ≡ Some keys

one_or_none : (retired : Bool) → (if retired then 0 else 1) ≤ 1
one_or_none true = omega arith
one_or_none false = omega arith

row_told : (trees : Forest WrapKeyValue) → leaves_of of_raw trees ≤ 64 → AreTold (leaves_of of_raw trees) (meanings raw_meaning trees)
row_told Nil few = record { few = omega arith; keys = []; told = refl }
row_told (RawThen key trees) few =
    let s = row_told trees (omega (arith, few)) in
    record { few = omega (arith, s.few, one_or_none key.retired); keys = key ∷ s.keys; told = rw s.told refl }
row_told (HandedThen key trees) few =
    let s = row_told trees (omega (arith, few)) in
    record { few = omega (arith, s.few); keys = key ∷ s.keys; told = rw s.told refl }
row_told (MultiThen has members trees) few =
    let m = row_told members (omega (arith, few)) in
    let s = row_told trees (omega (arith, few)) in
    let narrow : nat_lt 64 (all_wraps (meanings raw_meaning members)) ≡ false = le-ltb 64 (all_wraps (meanings raw_meaning members)) (omega (arith, m.few, few)) in
    record { few = omega (arith, m.few, s.few); keys = m.keys ++ s.keys; told = rw (narrow, m.told, s.told) refl }

tree_told : (tree : Tree) → leaves_of of_raw (forest (tree ∷ [])) ≤ 64 → (keys : List WrapKeyValue) × ((tree_meaning raw_meaning tree).keys ≡ Some keys)
tree_told (Raw key) few = (key ∷ [], refl)
tree_told (Handed key) few = (key ∷ [], refl)
tree_told (Multi multi) few =
    let members = multi.value.1 in
    let m = row_told members (omega (arith, few)) in
    let narrow : nat_lt 64 (all_wraps (meanings raw_meaning members)) ≡ false = le-ltb 64 (all_wraps (meanings raw_meaning members)) (omega (arith, m.few, few)) in
    (m.keys, rw (narrow, m.told) refl)

-- ---- the leaves are as many

abbrev row_keys : Forest WrapKeyValue → List WrapKeyValue
row_keys Nil = []
row_keys (RawThen key trees) = key ∷ row_keys trees
row_keys (HandedThen key trees) = key ∷ row_keys trees
row_keys (MultiThen has members trees) = row_keys members ++ row_keys trees

abbrev tree_keys : Tree → List WrapKeyValue
tree_keys (Raw key) = key ∷ []
tree_keys (Handed key) = key ∷ []
tree_keys (Multi multi) = row_keys multi.value.1

row_leaves : (trees : Forest WrapKeyValue) → leaves raw_meaning trees ≡ map raw_meaning (row_keys trees)
row_leaves Nil = refl
row_leaves (RawThen key trees) = ap (λ (l : List KeyringMeaning). raw_meaning key ∷ l) (row_leaves trees)
row_leaves (HandedThen key trees) = ap (λ (l : List KeyringMeaning). raw_meaning key ∷ l) (row_leaves trees)
row_leaves (MultiThen has members trees) =
    rw (row_leaves members, row_leaves trees) (sym (map-append raw_meaning (row_keys members) (row_keys trees)))

tree_leaves : (tree : Tree) → node_leaves raw_meaning tree ≡ map raw_meaning (tree_keys tree)
tree_leaves (Raw key) = refl
tree_leaves (Handed key) = refl
tree_leaves (Multi multi) = row_leaves multi.value.1

keys_told : (keys : List WrapKeyValue) → all_keys (map raw_meaning keys) ≡ Some keys
keys_told [] = refl
keys_told (key ∷ keys) = rw (keys_told keys) refl

as_many : (tree : Tree) (keys : List WrapKeyValue) → (tree_meaning raw_meaning tree).keys ≡ Some keys → length (node_leaves raw_meaning tree) ≡ length keys
as_many tree keys told =
    let both : Some keys ≡ Some (tree_keys tree) =
    sym (tells_its_leaves raw_meaning tree keys told) ∙ ap all_keys (tree_leaves tree) ∙ keys_told (tree_keys tree) in
    let same : keys ≡ tree_keys tree = cc in
    omega (arith, ap length (tree_leaves tree), length-map (tree_keys tree) raw_meaning, ap length same)

pub leaves_few_of : (tree : Tree) → HasFew tree → length (node_leaves raw_meaning tree) < 2 ^ 32
leaves_few_of tree has = omega (arith, as_many tree has.keys has.told, has.few)

-- ---- what is named

row_each_told : (keys : List WrapKeyValue) → told_by (map raw_meaning keys) ≡ Some (map (λ m. unwrap_or m.keys []) (map raw_meaning keys))
row_each_told [] = refl
row_each_told (key ∷ keys) = rw (row_each_told keys) refl

row_unfailed : (keys : List WrapKeyValue) → all_faults (map raw_meaning keys) ≡ 0
row_unfailed [] = refl
row_unfailed (key ∷ keys) = omega (arith, row_unfailed keys)

each_told : (tree : Tree) → told_by (node_leaves raw_meaning tree) ≡ Some (leaf_keys tree)
each_told tree = rw (tree_leaves tree) (row_each_told (tree_keys tree))

unfailed : (tree : Tree) → all_faults (node_leaves raw_meaning tree) ≡ 0
unfailed tree = rw (tree_leaves tree) (row_unfailed (tree_keys tree))

pub names_leaves : (old new : Tree) (h : HeaderValue) (given : List KeyValue) (numbers : List ℕ)
    → NamesOpeners (node_leaves raw_meaning old) (node_leaves raw_meaning new) h given numbers → NamesLeaves old new h given numbers
names_leaves old new h given numbers names = record {
  names = names;
  are =
      names_what_opens (node_leaves raw_meaning old) (node_leaves raw_meaning new) h given numbers (leaf_keys old) names (each_told old)
      (omega (arith, unfailed old, unfailed new));
}

-- ---- of a file, and through calls

pub has_few : (bytes : List ℕ) (plugs : List (Plug WrapKeyValue)) (tree : Tree) → plugs ≡ [] → tree_of of_raw bytes plugs ≡ Ok (forest (tree ∷ [])) → HasFew tree
has_few bytes plugs tree none read =
    let room : length plugs < 2 ^ 24 = omega (arith, ap length none) in
    let told = tree_told tree (file_is_low of_raw bytes plugs (forest (tree ∷ [])) room read).1 in
    record {
      keys = told.0;
      told = told.1;
      few = omega (arith, as_many tree told.0 told.1, leaves_few of_raw raw_meaning bytes plugs tree room read);
    }
