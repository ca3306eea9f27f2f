-- The text so far, and behind it the lines of the jobs from this one on, are the whole.
use Rattle.std.proofs.Common.{◌≡◌, ◌+◌, ◌++◌, drop}
use Rattle.batch_report.specs.BatchReport.{report_of, lines_from}
use Rattle.batch_report.proofs.texts.report_text.Given as goal

abbrev pub invariant-loop-at : goal.invariant-loop-at
invariant-loop-at l = report_of l.line-items ≡ l.text ++ lines_from (l.at + 1) (drop l.at l.line-items)
