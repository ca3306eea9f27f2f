-- The trees before the index are no higher.
use Rattle.std.proofs.Common.{◌≡◌, ◌≤◌, max, drop}
use Rattle.multi_keyring.specs.Forest.{tallest}
use Rattle.multi_keyring.specs.Nodes.{forest}
use Rattle.multi_keyring.proofs.making.tallest_of.Given as goal

abbrev pub invariant-loop-node : goal.invariant-loop-node
invariant-loop-node g l = (tallest (forest l.nodes) ≡ max l.tallest (tallest (forest (drop l.node-index l.nodes)))) × (l.tallest ≤ 8)
