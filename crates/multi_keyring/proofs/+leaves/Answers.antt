use Rattle.std.proofs.Common.{rules, arith, ap, length}
use Rattle.multi_keyring.specs.Nodes.{forest}
use Rattle.multi_keyring.specs.Tree.{leaves}
use Rattle.multi_keyring.proofs.Measures.{sizes_le}
use Rattle.multi_keyring.proofs.Finding.{all_with}
use Rattle.multi_keyring.proofs.LeafUnwrapping.{leaves_first, tally_more, tally_few, tally_all, tally_members}
use Rattle.multi_keyring.proofs.+leaves.Goals as goal

pub tree::Members::leaves-leaves_of-requires : goal.tree::Members::leaves-leaves_of-requires
tree::Members::leaves-leaves_of-requires g t c κs within = (
  rw c.deref.ensures.value (omega (arith, c.decreases, sizes_le c.args.self.now.children.items)),
  (
    search rules,
    omega (
      arith,
      c.requires,
      ap (λ nodes. length (leaves g.P.Keyring.meaning (forest nodes))) (all_with c.args.self.now c.in-Some.generator c.in-Some.is),
      ap (λ nodes. length (leaves g.P.Keyring.meaning (forest nodes))) c.deref.ensures.value,
      leaves_first g.P.Keyring.meaning c.in-Some.generator c.args.self.now.children.items,
    ),
  ),
)

pub leaf_count::leaves_of-loop-node-preserved : goal.leaf_count::leaves_of-loop-node-preserved
leaf_count::leaves_of-loop-node-preserved g t c =
    tally_more g.P.Keyring.meaning c.args.nodes.now c.loop-node.node-index c.loop-node.count c.leaves-count.result c.node-item.result (omega (arith, c.loop-node-test.true)) c.node-item.is c.loop-node.invariant c.leaves-count.ensures

pub leaf_count::leaves_of-overflow_add-count : goal.leaf_count::leaves_of-overflow_add-count
leaf_count::leaves_of-overflow_add-count g t c =
    omega (
      arith,
      c.requires,
      tally_few g.P.Keyring.meaning c.args.nodes.now c.loop-node.node-index c.loop-node.count c.leaves-count.result c.node-item.result (omega (arith, c.loop-node-test.true)) c.node-item.is c.loop-node.invariant c.leaves-count.ensures,
    )

pub leaf_count::leaves_of-returns : goal.leaf_count::leaves_of-returns
leaf_count::leaves_of-returns g t c =
    tally_all g.P.Keyring.meaning c.args.nodes.now c.loop-node.node-index c.loop-node.count (omega (arith, c.loop-node-test.false, c.loop-node.auto.node-index-end)) c.loop-node.invariant

pub tree::Members::leaves-overflow_add-result : goal.tree::Members::leaves-overflow_add-result
tree::Members::leaves-overflow_add-result g t c =
    omega (
      arith,
      c.requires,
      tally_members g.P.Keyring.meaning c.args.self.now c.in-Some.generator c.deref.result.now c.leaves.result c.leaves_of.result c.in-Some.is c.deref.ensures.value c.leaves.ensures c.leaves_of.ensures,
    )

pub tree::Members::leaves-returns-in-Some : goal.tree::Members::leaves-returns-in-Some
tree::Members::leaves-returns-in-Some g t c =
    tally_members g.P.Keyring.meaning c.args.self.now c.in-Some.generator c.deref.result.now c.leaves.result c.leaves_of.result c.in-Some.is c.deref.ensures.value c.leaves.ensures c.leaves_of.ensures
