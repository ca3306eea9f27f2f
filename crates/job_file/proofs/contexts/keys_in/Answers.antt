-- Each key is inserted as the definition inserts it, or the list is refused.
use Rattle.std.proofs.Common.{rules, sym, ◌∙◌, arith}
use Rattle.job_file.proofs.Listed.{key_fails, key_more, keys_done}
use Rattle.job_file.proofs.contexts.keys_in.Goals as goal

pub returns-then-not-branch-clause-value : goal.returns-then-not-branch-clause-value
returns-then-not-branch-clause-value c =
    sym (c.loop-value.invariant.whole ∙ key_fails c.args.context.now c.args.values.now c.loop-value.value-index c.value-item.result (omega (arith, c.loop-value-test.true)) c.value-item.is c.loop-value.keys
    c.insert_key.new.keys c.in_ok-insert_key.field-0 c.in_ok-insert_key.ensures.value (search rules))

pub loop-value-preserved : goal.loop-value-preserved
loop-value-preserved c = record {
  whole = c.loop-value.invariant.whole ∙ key_more c.args.context.now c.args.values.now c.loop-value.value-index c.value-item.result (omega (arith, c.loop-value-test.true)) c.value-item.is c.loop-value.keys
      c.insert_key.new.keys c.in_ok-insert_key.field-0 c.in_ok-insert_key.ensures.value (search rules);
  held = c.in_ok-insert_key.ensures.held c.loop-value.invariant.held;
}

pub returns-clause-value : goal.returns-clause-value
returns-clause-value c =
    sym (c.loop-value.invariant.whole ∙ keys_done c.args.context.now c.args.values.now c.loop-value.value-index c.loop-value.keys (omega (arith, c.loop-value-test.false)))
