-- No tree before the index refuses.
use Rattle.std.proofs.Common.{◌≡◌, drop, map}
use Rattle.multi_keyring.specs.Tree.{first_refusal, tree_meaning}
use Rattle.multi_keyring.proofs.+refusal.Given as goal

abbrev pub invariant-refusing::refusal_of-loop-node : goal.invariant-refusing::refusal_of-loop-node
invariant-refusing::refusal_of-loop-node g l =
    first_refusal (map (tree_meaning g.P.Keyring.meaning) l.nodes) ≡ first_refusal (map (tree_meaning g.P.Keyring.meaning) (drop l.node-index l.nodes))
