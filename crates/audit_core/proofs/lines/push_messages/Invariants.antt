-- The text so far, and behind it the lines of the messages from this one on, are the whole.
use Rattle.std.proofs.Common.{◌≡◌, ◌+◌, ◌++◌, drop}
use Rattle.audit_core.specs.Lines.{message_lines}
use Rattle.audit_core.proofs.lines.push_messages.Given as goal

abbrev pub invariant-loop-at : goal.invariant-loop-at
invariant-loop-at l = l.fn.text ++ message_lines 1 l.messages ≡ l.text ++ message_lines (l.at + 1) (drop l.at l.messages)
