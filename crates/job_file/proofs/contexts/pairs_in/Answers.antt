-- Each pair is inserted as the definition inserts it, or the members are refused.
use Rattle.std.proofs.Common.{rules, sym, ◌∙◌}
use Rattle.job_file.proofs.Listed.{pair_fails, pair_more, pairs_done}
use Rattle.job_file.proofs.contexts.pairs_in.Goals as goal

pub returns-then-not-branch : goal.returns-then-not-branch
returns-then-not-branch c =
    sym (c.loop-key.invariant ∙ pair_fails c.loop-key.context c.insert_pair.new.context c.loop-key.key-iterator c.next.new.self (c.in-Some.key.now, c.in-Some.value.now) c.in_ok-insert_pair.field-0
    c.in-Some.ensures.steps (search rules) (search rules))

pub loop-key-preserved : goal.loop-key-preserved
loop-key-preserved c =
    c.loop-key.invariant ∙ pair_more c.loop-key.context c.insert_pair.new.context c.loop-key.key-iterator c.next.new.self (c.in-Some.key.now, c.in-Some.value.now) c.in_ok-insert_pair.field-0
    c.in-Some.ensures.steps (search rules) (search rules)

pub returns : goal.returns
returns c = sym (c.loop-key.invariant ∙ pairs_done c.loop-key.context c.loop-key.key-iterator c.in-None.ensures.steps.0)
