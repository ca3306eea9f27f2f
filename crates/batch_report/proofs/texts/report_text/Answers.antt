-- Each line is the next of the text.
use Rattle.std.proofs.Common.{◌+◌, ◌++◌, drop, sym, ap, ◌∙◌, arith}
use Rattle.batch_report.specs.BatchReport.{lines_from, report_of}
use Rattle.batch_report.proofs.Rows.{line_more, lines_done}
use Rattle.batch_report.proofs.texts.report_text.Goals as goal

pub loop-at-preserved : goal.loop-at-preserved
loop-at-preserved c =
    c.loop-at.invariant
    ∙ line_more c.lines-line-items.result.now c.loop-at.at (c.loop-at.at + 1) c.line-item.result c.loop-at.text (omega (arith, c.loop-at-test.true)) c.line-item.is
    ∙ ap (λ text. text ++ lines_from (c.loop-at.at + 1 + 1) (drop (c.loop-at.at + 1) c.lines-line-items.result.now)) (sym c.in_ok-push_line.ensures)

pub returns : goal.returns
returns c =
    sym (c.loop-at.invariant ∙ lines_done c.lines-line-items.result.now c.loop-at.at (c.loop-at.at + 1) c.loop-at.text (omega (arith, c.loop-at-test.false)))
    ∙ ap report_of c.lines-line-items.ensures
