-- Of each message before this one it was found what leaves open it.
use Rattle.std.proofs.Common.{◌≡◌, take}
use Rattle.keyring_trait.specs.Keyring.{KeyringGoes}
use Rattle.multi_keyring.specs.Tree.{node_leaves, tree_meaning}
use Rattle.audit_core.specs.MessageFiles.{FindsEach}
use Rattle.audit_core.proofs.messages.audit_messages.Given as goal

abbrev pub invariant-loop-message : goal.invariant-loop-message
invariant-loop-message g l =
    record {
      goes : KeyringGoes (tree_meaning g.P.Keyring.meaning l.fn.node) (tree_meaning g.P.Keyring.meaning l.node);
      files : (g.F.Shelf.state l.shelf).files ≡ (g.F.Shelf.state l.fn.shelf).files;
      each : FindsEach (g.F.Shelf.state l.fn.shelf) (g.F.Shelf.state l.shelf) (node_leaves g.P.Keyring.meaning l.fn.node) (node_leaves g.P.Keyring.meaning l.node) (take l.message-index l.messages)
          l.found.items;
    }
