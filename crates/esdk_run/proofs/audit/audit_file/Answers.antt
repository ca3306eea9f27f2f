-- The tree that is left, and what was found with it.
use Rattle.std.proofs.Common.{None, Some, ap, arith, length, refl}
use Rattle.multi_keyring.specs.Tree.{node_leaves, tree_meaning}
use Rattle.esdk_run.specs.Trees.{trees_of}
use Rattle.esdk_run.proofs.Auditing.{audit_fails, audits_of, each_counted, found_all, no_audit_file, no_audit_tree}
use Rattle.esdk_run.proofs.audit.audit_file.Goals as goal

pub returns-in-Ok-audit_messages-clause-done : goal.returns-in-Ok-audit_messages-clause-done
returns-in-Ok-audit_messages-clause-done g c =
    let meaning = g.P.Keyring.meaning in
    let node = c.in-Ok-read_keyring.tree in
    let left = c.audit_messages.new.node in
    let read = g.F.Shelf.state c.read_keyring.new.shelf in
    found_all meaning (trees_of meaning c.args.plugs.items (Some left)) c.args.name.now (g.F.Shelf.state c.args.shelf.now) read (g.F.Shelf.state c.audit_messages.new.shelf) c.in-Ok.audit node left
    c.leaves-leaves.result c.messages.result.now c.in-Ok-audit_messages.messages.items
    (audits_of meaning c.args.plugs.items node left c.args.name.now c.keyring.result.now (g.F.Shelf.state c.args.shelf.now) (g.F.Shelf.state c.read_audit_file.new.shelf) read c.in-Ok.audit
    c.in-Ok.ensures.audit c.keyring.ensures c.in-Ok-read_keyring.ensures.leaves c.read_keyring.ensures.stays c.audit_messages.ensures.goes)
    c.messages.ensures.messages c.in-Ok-audit_messages.ensures.each c.leaves-leaves.ensures

pub returns-in-Ok-audit_messages-clause-few : goal.returns-in-Ok-audit_messages-clause-few
returns-in-Ok-audit_messages-clause-few g c =
    omega (arith, each_counted _ _ _ _ _ _ c.in-Ok-audit_messages.ensures.each, ap length c.messages.ensures.messages, c.messages.ensures.file.few)

pub returns-clause-fails : goal.returns-clause-fails
returns-clause-fails g c =
    let meaning = g.P.Keyring.meaning in
    let node = c.in-Ok-read_keyring.tree in
    let left = c.audit_messages.new.node in
    let read = g.F.Shelf.state c.read_keyring.new.shelf in
    audit_fails (trees_of meaning c.args.plugs.items (Some left)) c.args.name.now (g.F.Shelf.state c.args.shelf.now) read (g.F.Shelf.state c.audit_messages.new.shelf) c.in-Ok.audit
    (tree_meaning meaning left) (node_leaves meaning node) c.messages.result.now c.in-Err-audit_messages.failure
    (audits_of meaning c.args.plugs.items node left c.args.name.now c.keyring.result.now (g.F.Shelf.state c.args.shelf.now) (g.F.Shelf.state c.read_audit_file.new.shelf) read c.in-Ok.audit
    c.in-Ok.ensures.audit c.keyring.ensures c.in-Ok-read_keyring.ensures.leaves c.read_keyring.ensures.stays c.audit_messages.ensures.goes)
    c.messages.ensures.messages c.in-Err-audit_messages.ensures.cause

pub returns-in-Err-clause-fails : goal.returns-in-Err-clause-fails
returns-in-Err-clause-fails g c =
    rw c.without_tree.ensures
    (no_audit_file (trees_of g.P.Keyring.meaning c.args.plugs.items None) c.args.name.now (g.F.Shelf.state c.args.shelf.now) (g.F.Shelf.state c.read_audit_file.new.shelf)
    c.in-Err.failure refl c.in-Err.ensures.cause)

pub returns-in-Err-read_keyring-clause-fails : goal.returns-in-Err-read_keyring-clause-fails
returns-in-Err-read_keyring-clause-fails g c =
    rw c.without_tree-in-Err-read_keyring.ensures
    (no_audit_tree (trees_of g.P.Keyring.meaning c.args.plugs.items None) c.args.name.now c.keyring.result.now (g.F.Shelf.state c.args.shelf.now) (g.F.Shelf.state c.read_audit_file.new.shelf)
    (g.F.Shelf.state c.read_keyring.new.shelf) c.in-Ok.audit
    c.in-Err-read_keyring.failure refl c.in-Ok.ensures.audit c.keyring.ensures c.in-Err-read_keyring.ensures.cause)
