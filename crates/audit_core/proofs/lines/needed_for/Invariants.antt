-- The messages so far that the leaf is needed for, and behind them those of the rest, are all.
use Rattle.std.proofs.Common.{◌≡◌, ◌+◌, ◌++◌, drop}
use Rattle.audit_core.specs.Openers.{is_needed_for, needed_for, numbers_of}
use Rattle.audit_core.proofs.lines.needed_for.Given as goal

abbrev pub invariant-loop-at : goal.invariant-loop-at
invariant-loop-at l = needed_for l.leaf l.messages ≡ l.needed.items ++ numbers_of (is_needed_for l.leaf) (l.at + 1) (drop l.at l.messages)
