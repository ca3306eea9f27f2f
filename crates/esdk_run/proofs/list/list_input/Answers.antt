-- The input is read as armour text, and its end is judged where its bytes end within a header.
use Rattle.std.proofs.Common.{◌∙◌, ap, refl, sym}
use Rattle.esdk_run.specs.UnarmouredList.{wants_header}
use Rattle.esdk_run.proofs.UnarmouredListing.{listed_text, lists_nothing, text_refused, text_undone}
use Rattle.esdk_run.proofs.Unarmouring.{reads_over, unread_text}
use Rattle.esdk_run.proofs.list.list_input.Goals as goal

-- ---- there is no buffer for the text

pub returns-in_default-clause-ends : goal.returns-in_default-clause-ends
returns-in_default-clause-ends g c =
    rw c.if-not-armour.false (unread_text (g.S.Source.state c.args.input.now) _ (λ seen. (lists_nothing c.args.uncommitted seen, refl)))

-- ---- the text's end says nothing else

pub returns-in-Ok-judged-clause-done : goal.returns-in-Ok-judged-clause-done
returns-in-Ok-judged-clause-done g c =
    let over = reads_over g.S.Source.state c.args.input.now _ c.over-text.result c.list-ended.new.input c.judge_end-judged.new.text _ (wants_header c.list-ended.result) _
    (ap (λ t. t.now) c.over-text.ensures.text) (λ text. c.over-text.ensures.outlook text) c.over-text.ensures.none c.over-text.ensures.given c.over-text.ensures.faults c.over-text.ensures.goes c.over-text.ensures.came c.over-text.ensures.ended c.list-ended.ensures.lasts.2 c.judge_end-judged.ensures.looks
    c.wants_header.ensures c.in-Ok-judged.ensures.sees c.in-Ok-judged.ensures.passes
    (c.input-1.given.1 (sym (c.into_text.ensures.same ∙ c.judge_end-judged.ensures.same ∙ c.list-ended.ensures.lasts.0 ∙ ap (λ t. t.ghost_name) c.over-text.ensures.text))
    ∙ c.into_text.ensures.now) in
    rw c.if-not-armour.false (listed_text c.args.uncommitted _ _ _ _ _ _ c.list-ended.result over c.list-ended.ensures.done)

pub returns-in-Ok-judged-clause-ends : goal.returns-in-Ok-judged-clause-ends
returns-in-Ok-judged-clause-ends g c =
    let over = reads_over g.S.Source.state c.args.input.now _ c.over-text.result c.list-ended.new.input c.judge_end-judged.new.text _ (wants_header c.list-ended.result) _
    (ap (λ t. t.now) c.over-text.ensures.text) (λ text. c.over-text.ensures.outlook text) c.over-text.ensures.none c.over-text.ensures.given c.over-text.ensures.faults c.over-text.ensures.goes c.over-text.ensures.came c.over-text.ensures.ended c.list-ended.ensures.lasts.2 c.judge_end-judged.ensures.looks
    c.wants_header.ensures c.in-Ok-judged.ensures.sees c.in-Ok-judged.ensures.passes
    (c.input-1.given.1 (sym (c.into_text.ensures.same ∙ c.judge_end-judged.ensures.same ∙ c.list-ended.ensures.lasts.0 ∙ ap (λ t. t.ghost_name) c.over-text.ensures.text))
    ∙ c.into_text.ensures.now) in
    rw c.if-not-armour.false (text_undone c.args.uncommitted _ _ _ _ _ _ _ c.list-ended.result over c.list-ended.ensures.cause c.list-ended.ensures.output)

-- ---- it decides

pub returns-in-Err-clause-ends : goal.returns-in-Err-clause-ends
returns-in-Err-clause-ends g c =
    let over = reads_over g.S.Source.state c.args.input.now _ c.over-text.result c.list-ended.new.input c.judge_end-judged.new.text _ (wants_header c.list-ended.result) _
    (ap (λ t. t.now) c.over-text.ensures.text) (λ text. c.over-text.ensures.outlook text) c.over-text.ensures.none c.over-text.ensures.given c.over-text.ensures.faults c.over-text.ensures.goes c.over-text.ensures.came c.over-text.ensures.ended c.list-ended.ensures.lasts.2 c.judge_end-judged.ensures.looks
    c.wants_header.ensures c.in-Err.ensures.sees c.in-Err.ensures.passes
    (c.input-1.given.1 (sym (c.into_text.ensures.same ∙ c.judge_end-judged.ensures.same ∙ c.list-ended.ensures.lasts.0 ∙ ap (λ t. t.ghost_name) c.over-text.ensures.text))
    ∙ c.into_text.ensures.now) in
    rw (c.if-not-armour.false, c.decryption_failure.ensures)
    (text_refused c.args.uncommitted _ _ _ _ _ _ _ c.list-ended.result c.in-Err.error over c.list-ended.ensures.cause c.list-ended.ensures.output)
