-- The entries of the trees before the index are counted.
use Rattle.std.proofs.Common.{◌≡◌, ◌≤◌, ◌+◌, ◌*◌, drop, map}
use Rattle.multi_keyring.specs.Tree.{all_wraps, tree_meaning}
use Rattle.multi_keyring.specs.Rows.{AllCounted}
use Rattle.multi_keyring.proofs.+entry_count.Given as goal

abbrev pub invariant-wraps::entry_count_of-loop-node :
    goal.invariant-wraps::entry_count_of-loop-node
invariant-wraps::entry_count_of-loop-node g l =
    (all_wraps (map (tree_meaning g.P.Keyring.meaning) l.nodes) ≡ l.count + all_wraps (map (tree_meaning g.P.Keyring.meaning) (drop l.node-index l.nodes)))
    × ((l.count ≤ 64 * l.node-index)
    × (AllCounted (map (tree_meaning g.P.Keyring.meaning) (drop l.node-index l.nodes)) → AllCounted (map (tree_meaning g.P.Keyring.meaning) l.nodes)))
