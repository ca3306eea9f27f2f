-- One leaf more is asked; at the end all were.
use Rattle.std.proofs.Common.{arith}
use Rattle.multi_keyring.specs.Tree.{node_leaves, tree_meaning}
use Rattle.audit_core.proofs.Trying.{all_tried, one_is_opener, one_is_none, tree_goes_on}
use Rattle.audit_core.proofs.asking.audit_one.Goals as goal
use Rattle.audit_core.proofs.asking.audit_one.Goals.{then-branch+in_ok-push, else-branch}

pub loop-leaf-preserved : goal.loop-leaf-preserved
loop-leaf-preserved g c =
    let meaning = g.P.Keyring.meaning in
    record {
      goes = tree_goes_on (tree_meaning meaning c.args.node.now) (tree_meaning meaning c.loop-leaf.node) (tree_meaning meaning c.try_leaf.new.node) c.loop-leaf.invariant.goes c.try_leaf.ensures.goes;
      first =
          elim c.if-branch.branch [
            | then-branch+in_ok-push w ↦
                one_is_opener (node_leaves meaning c.args.node.now) (node_leaves meaning c.loop-leaf.node) (node_leaves meaning c.try_leaf.new.node) c.args.header.now c.in_ok-pairs.pairs.whole
                c.in_ok-pairs.pairs.only c.loop-leaf.leaf c.loop-leaf.openers.items c.if-branch.openers.items c.in_ok-try_leaf.field-0 w.if-branch.true (cc (w.openers-is, w.in_ok-push.ensures.items)) c.loop-leaf.invariant.first
                c.in_ok-try_leaf.ensures.tries
            | else-branch w ↦
                one_is_none (node_leaves meaning c.args.node.now) (node_leaves meaning c.loop-leaf.node) (node_leaves meaning c.try_leaf.new.node) c.args.header.now c.in_ok-pairs.pairs.whole
                c.in_ok-pairs.pairs.only c.loop-leaf.leaf c.loop-leaf.openers.items c.if-branch.openers.items c.in_ok-try_leaf.field-0 w.if-branch.false (cc w.openers-is) c.loop-leaf.invariant.first
                c.in_ok-try_leaf.ensures.tries
          ];
    }

pub returns-clause-openers : goal.returns-clause-openers
returns-clause-openers g c =
    let meaning = g.P.Keyring.meaning in
    all_tried (node_leaves meaning c.args.node.now) (node_leaves meaning c.loop-leaf.node) c.args.header.now c.args.given.now c.in_ok-pairs.pairs.whole c.in_ok-pairs.pairs.only c.loop-leaf.leaf
    c.loop-leaf.openers.items c.in_ok-pairs.ensures.pairs.sound c.in_ok-pairs.ensures.pairs.whole c.in_ok-pairs.ensures.pairs.only (omega (arith, c.loop-leaf-test.false, c.leaves-count.ensures))
    c.loop-leaf.invariant.first
