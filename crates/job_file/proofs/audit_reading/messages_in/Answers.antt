-- Each message is read as the definition reads it, or the file is refused at its number.
use Rattle.std.proofs.Common.{rules, ◌+◌, drop, sym, ap, ◌∙◌, arith}
use Rattle.std.proofs.lemmas.Grind.{common_steps}
use Rattle.serde_json.specs.View.{items_view}
use Rattle.job_file.specs.AuditForm.{audit_message_of}
use Rattle.job_file.specs.Audit.{messages_from}
use Rattle.job_file.proofs.Rows.{behind, all_done, one_fails, one_more}
use Rattle.job_file.proofs.audit_reading.messages_in.Goals as goal

pub returns-in_default-clause-value : goal.returns-in_default-clause-value
returns-in_default-clause-value c =
    c.loop-value.invariant.whole ∙ one_fails c.args.values.now c.loop-value.value-index c.value-item.result (omega (arith, c.loop-value-test.true)) c.value-item.is audit_message_of c.loop-value.messages.items
    (c.loop-value.number + 1) (search rules)

pub loop-value-preserved : goal.loop-value-preserved
loop-value-preserved c = record {
  number = ap (λ n. n + 1) c.loop-value.invariant.number;
  count = grind (arith, common_steps);
  whole = c.loop-value.invariant.whole ∙ one_more c.args.values.now c.loop-value.value-index c.value-item.result (omega (arith, c.loop-value-test.true)) c.value-item.is audit_message_of c.loop-value.messages.items
      c.in-Some.message (c.loop-value.number + 1) (search rules) ∙ ap (λ front. behind front (messages_from (c.loop-value.number + 1 + 1) (items_view (drop (c.loop-value.value-index + 1) c.args.values.now)))) (sym c.in_ok-push.ensures.items);
}

pub returns-clause-value : goal.returns-clause-value
returns-clause-value c =
    c.loop-value.invariant.whole ∙ all_done audit_message_of c.args.values.now c.loop-value.value-index c.loop-value.messages.items (c.loop-value.number + 1) (omega (arith, c.loop-value-test.false))
