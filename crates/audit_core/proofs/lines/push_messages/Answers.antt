-- Each line is the next of the text.
use Rattle.std.proofs.Common.{◌+◌, ◌++◌, List, ℕ, drop, sym, ap, ◌∙◌, arith}
use Rattle.audit_core.specs.Lines.{message_lines}
use Rattle.audit_core.proofs.Rows.{message_more, messages_done}
use Rattle.audit_core.proofs.lines.push_messages.Goals as goal

pub loop-at-preserved : goal.loop-at-preserved
loop-at-preserved c =
    c.loop-at.invariant
    ∙ message_more c.args.messages.now c.loop-at.at (c.loop-at.at + 1) c.index-messages-at.result c.loop-at.text (omega (arith, c.loop-at-test.true)) c.index-messages-at.is
    ∙ ap (λ (text : List ℕ). text ++ message_lines (c.loop-at.at + 1 + 1) (drop (c.loop-at.at + 1) c.args.messages.now)) (sym c.in_ok-push_message.ensures)

pub returns : goal.returns
returns c = sym (c.loop-at.invariant ∙ messages_done c.args.messages.now c.loop-at.at (c.loop-at.at + 1) c.loop-at.text (omega (arith, c.loop-at-test.false)))
