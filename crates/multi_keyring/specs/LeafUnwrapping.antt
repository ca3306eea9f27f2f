-- What a leaf of a tree answers by itself.
use Rattle.std.specs.Prelude.{◌≡◌, ℕ, ◌+◌, ◌≤◌, List, ◌∷◌, ◌++◌, length, Option, Result}
use Rattle.context_codec.specs.Context.{KeyValue}
use Rattle.edk_codec.specs.Entry.{Entry}
use Rattle.keyring_trait.specs.Keyring.{KeyringMeaning, KeyringGoes, FindsBy}
use Rattle.keyring_trait.specs.Uses.{AskedOnce}
use Rattle.keyring_trait.specs.declared.ring_refusals.RingError.{RingError}
use Rattle.multi_keyring.specs.Nodes.{forest}
use Rattle.multi_keyring.specs.Tree.{leaves, node_leaves}
use Rattle.multi_keyring.specs.Rows.{OpensAs}
use Rattle.multi_keyring.specs.Staying.{Stays}
use Rattle.multi_keyring.specs.declared.tree.Node.{Node}

-- The keyring of this number in a row, counted from 1, answered as it does by itself, asked once;
-- the others mean what they meant.
pub record AnswersAt (number : ℕ) (old now : List KeyringMeaning) (c : List KeyValue)
    (entries : List Entry) (answer : Result (Option (List ℕ)) RingError) : Type 0 where
  pub before : List KeyringMeaning
  pub asked : KeyringMeaning
  pub left : KeyringMeaning
  pub behind : List KeyringMeaning
  pub at : number ≡ length before + 1
  pub old_is : old ≡ before ++ asked ∷ behind
  pub now_is : now ≡ before ++ left ∷ behind
  pub goes : KeyringGoes asked left
  pub opens : OpensAs asked.keys asked.faults left.faults c entries answer
  pub used : AskedOnce asked.uses left.uses (FindsBy c entries answer)

-- So did the leaf of this number, of those of trees in a row.
pub record AsksLeaf {P : Type 0} (leaf : P → KeyringMeaning) (number : ℕ) (old now : List (Node P))
    (c : List KeyValue) (entries : List Entry)
    (answer : Result (Option (List ℕ)) RingError) : Type 0 where
  pub stays : Stays leaf old now
  pub answers :
      AnswersAt number (leaves leaf (forest old)) (leaves leaf (forest now)) c entries answer

-- The leaf of this number, of those of trees in a row, is in the tree at the index, and has the
-- other number among that tree's.
pub record IsSeat {P : Type 0} (leaf : P → KeyringMeaning) (nodes : List (Node P))
    (number index own : ℕ) : Type 0 where
  pub before : List (Node P)
  pub tree : Node P
  pub behind : List (Node P)
  pub nodes_are : nodes ≡ before ++ tree ∷ behind
  pub at : length before ≡ index
  pub number_is : number ≡ length (leaves leaf (forest before)) + own
  pub first : 1 ≤ own
  pub last : own ≤ length (node_leaves leaf tree)
