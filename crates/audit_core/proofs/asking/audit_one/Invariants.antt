-- The leaves up to this one were asked, and the tree is the one that it was but for its faults.
use Rattle.keyring_trait.specs.Keyring.{KeyringGoes}
use Rattle.multi_keyring.specs.Tree.{node_leaves, tree_meaning}
use Rattle.audit_core.specs.Asking.{NamesFirst}
use Rattle.audit_core.proofs.asking.audit_one.Given as goal

abbrev pub invariant-loop-leaf : goal.invariant-loop-leaf
invariant-loop-leaf g l =
    record {
      goes : KeyringGoes (tree_meaning g.P.Keyring.meaning l.fn.node) (tree_meaning g.P.Keyring.meaning l.node);
      first : NamesFirst (node_leaves g.P.Keyring.meaning l.fn.node) (node_leaves g.P.Keyring.meaning l.node) l.header l.pairs.whole l.pairs.only l.leaf l.openers.items;
    }
