-- What the laws of this crate say of trees.
use Rattle.std.specs.Prelude.{◌≡◌, ℕ, true, List, map, Option, Some, None}
use Rattle.context_codec.specs.Context.{KeyValue}
use Rattle.edk_codec.specs.Entry.{Entry}
use Rattle.keyring_trait.specs.Wrapping.{WrapKeyValue, first_some, unwrapped}
use Rattle.keyring_trait.specs.Keyring.{KeyringMeaning}
use Rattle.raw_aes_keyring.specs.Keyring.{raw_meaning}
use Rattle.multi_keyring.specs.Nodes.{forest}
use Rattle.multi_keyring.specs.Tree.{all_faults, all_keys, all_steady, meanings, node_leaves}
use Rattle.multi_keyring.specs.Tree.{tree_meaning}
use Rattle.multi_keyring.specs.declared.tree.Node.{Node}
use Rattle.multi_keyring.specs.declared.tree.Node.TheVariants.{Raw}

-- A tree of one raw key means what the raw key means.
abbrev pub MeansItsKey : {P : Type 0} → (P → KeyringMeaning) → Type 0
MeansItsKey leaf = (key : WrapKeyValue) → tree_meaning leaf (Raw key) ≡ raw_meaning key

-- Where a tree tells its keys, these are its leaves' in order.
abbrev pub TellsItsLeaves : {P : Type 0} → (P → KeyringMeaning) → Type 0
TellsItsLeaves {P = P} leaf = (node : Node P) (keys : List WrapKeyValue)
    → (tree_meaning leaf node).keys ≡ Some keys → all_keys (node_leaves leaf node) ≡ Some keys

-- The trees of a row mean what each of them means.
abbrev pub MeansItsTrees : {P : Type 0} → (P → KeyringMeaning) → Type 0
MeansItsTrees {P = P} leaf = (nodes : List (Node P))
    → meanings leaf (forest nodes) ≡ map (tree_meaning leaf) nodes

-- The faults that a tree counts are those of its leaves.
abbrev pub CountsItsLeaves : {P : Type 0} → (P → KeyringMeaning) → Type 0
CountsItsLeaves {P = P} leaf = (node : Node P)
    → (tree_meaning leaf node).faults ≡ all_faults (node_leaves leaf node)

-- The leaves of a steady tree are steady.
abbrev pub IsSteadyInItsLeaves : {P : Type 0} → (P → KeyringMeaning) → Type 0
IsSteadyInItsLeaves {P = P} leaf = (node : Node P) → (tree_meaning leaf node).steady ≡ true
    → all_steady (node_leaves leaf node) ≡ true

-- what keys open, where they are told
abbrev pub opened_with : Option (List WrapKeyValue) → List Entry → List KeyValue → Option (List ℕ)
opened_with None entries c = None
opened_with (Some keys) entries c = unwrapped keys entries c

-- Where a tree tells its keys, they open what the first leaf opens whose keys open an entry.
abbrev pub OpensWithItsLeaves : {P : Type 0} → (P → KeyringMeaning) → Type 0
OpensWithItsLeaves {P = P} leaf =
    (node : Node P) (keys : List WrapKeyValue) (entries : List Entry) (c : List KeyValue)
    → (tree_meaning leaf node).keys ≡ Some keys
    → unwrapped keys entries c
    ≡ first_some (λ m. opened_with m.keys entries c) (node_leaves leaf node)
