-- The text so far, and behind it the numbers from this one on, are the whole.
use Rattle.std.proofs.Common.{◌≡◌, ◌++◌, drop}
use Rattle.audit_core.specs.Lines.{number_words}
use Rattle.audit_core.proofs.lines.push_each.Given as goal

abbrev pub invariant-loop-number : goal.invariant-loop-number
invariant-loop-number l = l.fn.text ++ number_words l.numbers ≡ l.text ++ number_words (drop l.number-index l.numbers)
