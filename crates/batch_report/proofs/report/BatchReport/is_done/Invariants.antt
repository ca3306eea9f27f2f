-- Every job before this one is done.
use Rattle.std.proofs.Common.{◌≡◌, drop}
use Rattle.std.specs.List.{list_all}
use Rattle.batch_report.specs.BatchReport.{is_done}
use Rattle.batch_report.proofs.report.BatchReport.is_done.Given as goal

abbrev pub invariant-loop-line : goal.invariant-loop-line
invariant-loop-line l = list_all is_done l.line-items ≡ list_all is_done (drop l.line-index l.line-items)
