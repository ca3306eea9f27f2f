-- The text has the lines of the leaves so far.
use Rattle.std.proofs.Common.{◌≡◌, ◌++◌}
use Rattle.audit_core.specs.Lines.{leaf_lines}
use Rattle.audit_core.proofs.lines.push_leaves.Given as goal

abbrev pub invariant-loop-leaf : goal.invariant-loop-leaf
invariant-loop-leaf l = l.text ≡ l.fn.text ++ leaf_lines l.leaf l.messages
