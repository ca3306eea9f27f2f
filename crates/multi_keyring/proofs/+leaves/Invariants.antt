-- The leaves of the trees before the index are counted.
use Rattle.std.proofs.Common.{◌≡◌, ◌+◌, length, drop}
use Rattle.multi_keyring.specs.Nodes.{forest}
use Rattle.multi_keyring.specs.Tree.{leaves}
use Rattle.multi_keyring.proofs.+leaves.Given as goal

abbrev pub invariant-leaf_count::leaves_of-loop-node : goal.invariant-leaf_count::leaves_of-loop-node
invariant-leaf_count::leaves_of-loop-node g l =
    length (leaves g.P.Keyring.meaning (forest l.nodes)) ≡ l.count + length (leaves g.P.Keyring.meaning (forest (drop l.node-index l.nodes)))
