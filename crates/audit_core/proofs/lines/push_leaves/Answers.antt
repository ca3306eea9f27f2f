-- The lines of one leaf more.
use Rattle.std.proofs.Common.{◌++◌, sym, ap, ◌∙◌}
use Rattle.std.specs.Prelude.{List, ℕ, ◌+◌}
use Rattle.audit_core.specs.Lines.{leaf_line}
use Rattle.audit_core.proofs.Rows.{leaf_more, no_leaf}
use Rattle.audit_core.proofs.lines.push_leaves.Goals as goal

pub loop-leaf-init : goal.loop-leaf-init
loop-leaf-init c = sym (no_leaf c.args.messages.now c.args.text.now)

pub loop-leaf-preserved : goal.loop-leaf-preserved
loop-leaf-preserved c =
    c.in_ok-push_leaf.ensures
    ∙ ap (λ (t : List ℕ). t ++ leaf_line (c.loop-leaf.leaf + 1) c.args.messages.now) c.loop-leaf.invariant
    ∙ leaf_more c.loop-leaf.leaf c.args.messages.now c.args.text.now
