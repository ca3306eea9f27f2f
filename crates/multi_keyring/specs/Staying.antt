-- What a call keeps of trees in a row.
use Rattle.std.specs.Prelude.{◌≡◌, List, map}
use Rattle.keyring_trait.specs.Keyring.{KeyringMeaning}
use Rattle.multi_keyring.specs.Nodes.{node_height}
use Rattle.multi_keyring.specs.Tree.{tree_meaning}
use Rattle.multi_keyring.specs.Rows.{AllGo}
use Rattle.multi_keyring.specs.declared.tree.Node.{Node}

-- A call keeps each tree of a row, but for its count of faults.
pub record Stays {P : Type 0} (leaf : P → KeyringMeaning) (old now : List (Node P)) : Type 0 where
  pub heights : map node_height now ≡ map node_height old
  pub goes : AllGo (map (tree_meaning leaf) old) (map (tree_meaning leaf) now)
