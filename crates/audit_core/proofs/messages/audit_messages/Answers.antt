-- One message more was audited, or the first that isn't ends it.
use Rattle.std.proofs.Common.{◌∙◌, arith}
use Rattle.std.proofs.lemmas.Result.{err_from_is_err_and}
use Rattle.multi_keyring.specs.Tree.{node_leaves, tree_meaning}
use Rattle.multi_keyring.proofs.Leaves.{counts_its_leaves}
use Rattle.audit_core.proofs.Each.{each_many, found_more, lacks_room, not_found}
use Rattle.audit_core.proofs.Trying.{tree_goes_on}
use Rattle.audit_core.proofs.messages.audit_messages.Goals as goal

pub audit_message-requires : goal.audit_message-requires
audit_message-requires g c = omega (arith, c.requires, each_many _ _ _ _ _ _ c.loop-message.invariant.each)

pub returns-in_err-audited-clause-cause : goal.returns-in_err-audited-clause-cause
returns-in_err-audited-clause-cause g c =
    let p = err_from_is_err_and c.from_residual.result c.from_residual.ensures.1 in
    rw (p.1, p.2) (not_found c.args.messages.now c.loop-message.message-index c.message-item.result (omega (arith, c.loop-message-test.true)) c.message-item.is
    (g.F.Shelf.state c.args.shelf.now) (g.F.Shelf.state c.loop-message.shelf) (g.F.Shelf.state c.audit_message.new.shelf)
    (node_leaves g.P.Keyring.meaning c.args.node.now) (node_leaves g.P.Keyring.meaning c.loop-message.node)
    (tree_meaning g.P.Keyring.meaning c.loop-message.node).faults (tree_meaning g.P.Keyring.meaning c.audit_message.new.node).faults
    c.loop-message.found.items c.in_err-audited.field-0.0 (counts_its_leaves g.P.Keyring.meaning c.loop-message.node) c.loop-message.invariant.each c.in_err-audited.ensures.cause)

pub returns-in_err-push-clause-cause : goal.returns-in_err-push-clause-cause
returns-in_err-push-clause-cause g c =
    let p = err_from_is_err_and c.from_residual-in_err-push.result c.from_residual-in_err-push.ensures.1 in
    rw (p.1, p.2) (not_found c.args.messages.now c.loop-message.message-index c.message-item.result (omega (arith, c.loop-message-test.true)) c.message-item.is
    (g.F.Shelf.state c.args.shelf.now) (g.F.Shelf.state c.loop-message.shelf) (g.F.Shelf.state c.audit_message.new.shelf)
    (node_leaves g.P.Keyring.meaning c.args.node.now) (node_leaves g.P.Keyring.meaning c.loop-message.node)
    (tree_meaning g.P.Keyring.meaning c.loop-message.node).faults (tree_meaning g.P.Keyring.meaning c.audit_message.new.node).faults
    c.loop-message.found.items _ (counts_its_leaves g.P.Keyring.meaning c.loop-message.node) c.loop-message.invariant.each
    (lacks_room _ _ _ _ _ _ _ _ (counts_its_leaves g.P.Keyring.meaning c.loop-message.node) (counts_its_leaves g.P.Keyring.meaning c.audit_message.new.node) c.in_ok-audited.ensures.found))

pub loop-message-preserved : goal.loop-message-preserved
loop-message-preserved g c = record {
  goes = tree_goes_on _ _ _ c.loop-message.invariant.goes c.audit_message.ensures.goes;
  files = c.audit_message.ensures.stays ∙ c.loop-message.invariant.files;
  each = found_more c.args.messages.now c.loop-message.message-index c.message-item.result (omega (arith, c.loop-message-test.true)) c.message-item.is
      (g.F.Shelf.state c.args.shelf.now) (g.F.Shelf.state c.loop-message.shelf) (g.F.Shelf.state c.audit_message.new.shelf)
      (node_leaves g.P.Keyring.meaning c.args.node.now) (node_leaves g.P.Keyring.meaning c.loop-message.node) (node_leaves g.P.Keyring.meaning c.audit_message.new.node)
      c.loop-message.found.items c.push.new.self.items c.in_ok-audited.audited c.in_ok-push.ensures.items c.loop-message.invariant.each c.in_ok-audited.ensures.found;
}
