use Rattle.c_session.proofs.Trees.{leaves_few_of, names_leaves}
use Rattle.c_session.proofs.file_tree.FileTree.openers.Goals as goal
use Rattle.c_session.proofs.file_tree.FileTree.openers.Goals.{in-Ok, in-Err-Fault, in-Err-KeyringFault, in-Err-Memory}

pub audit_one-requires : goal.audit_one-requires
audit_one-requires c = leaves_few_of c.self.inside.node c.self.invariant

pub returns-clause-asks : goal.returns-clause-asks
returns-clause-asks c =
    elim c.match-audit_one.branch [
      | in-Ok w ↦
          rw (← c.self.view_is, w.result-is, w.new.ensures)
          (names_leaves c.self.inside.node c.audit_one.new.node c.args.header.now c.args.given.now w.in-Ok.numbers.items w.in-Ok.ensures.openers)
      | in-Err-Fault w ↦ rw (← c.self.view_is, w.result-is) (rw w.in-Err-Fault.field-0-is at w.in-Err-Fault.ensures.cause)
      | in-Err-KeyringFault w ↦ rw (← c.self.view_is, w.result-is) (rw w.in-Err-KeyringFault.field-0-is at w.in-Err-KeyringFault.ensures.cause)
      | in-Err-Memory w ↦ rw (← c.self.view_is, w.result-is) (rw w.in-Err-Memory.field-0-is at w.in-Err-Memory.ensures.cause)
    ]
