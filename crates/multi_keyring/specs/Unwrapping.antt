-- What trees in a row find together.
use Rattle.std.specs.Prelude.{ℕ, List, map, Option, Result}
use Rattle.context_codec.specs.Context.{KeyValue}
use Rattle.edk_codec.specs.Entry.{Entry}
use Rattle.keyring_trait.specs.Keyring.{KeyringMeaning, FindsBy}
use Rattle.keyring_trait.specs.Uses.{AskedOnce}
use Rattle.keyring_trait.specs.declared.ring_refusals.RingError.{RingError}
use Rattle.multi_keyring.specs.Nodes.{forest}
use Rattle.multi_keyring.specs.Tree.{all_keys, all_faults, all_uses, leaves, tree_meaning}
use Rattle.multi_keyring.specs.Staying.{Stays}
use Rattle.multi_keyring.specs.Rows.{OpensAs, FindsNoKey, NoneOpens, RestBehind}
use Rattle.multi_keyring.specs.declared.tree.Node.{Node}

-- What the trees of a row answer to entries: the key of the first that opens one. Where a tree
-- failed and no later one gives a key, that is the answer; then no leaf opens an entry that tells
-- its keys and didn't fail, as where none is found. Behind the first leaf that does, none is asked.
-- None is asked twice; and what is found is by the keys that they went by, failures or not.
pub record Unwraps {P : Type 0} (leaf : P → KeyringMeaning) (old now : List (Node P))
    (c : List KeyValue) (entries : List Entry)
    (answer : Result (Option (List ℕ)) RingError) : Type 0 where
  pub stays : Stays leaf old now
  pub opens :
      OpensAs (all_keys (map (tree_meaning leaf) old)) (all_faults (map (tree_meaning leaf) old))
      (all_faults (map (tree_meaning leaf) now)) c entries answer
  pub used : AskedOnce (all_uses (map (tree_meaning leaf) old))
      (all_uses (map (tree_meaning leaf) now)) (FindsBy c entries answer)
  pub none : FindsNoKey answer
      → NoneOpens (leaves leaf (forest old)) (leaves leaf (forest now)) c entries
  pub behind : RestBehind (leaves leaf (forest old)) (leaves leaf (forest now)) c entries
