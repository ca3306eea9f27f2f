-- The input is read as armour text, and its end is judged where its bytes have no fault.
use Rattle.std.proofs.Common.{◌≡◌, ◌∙◌, ap, refl, sym}
use Rattle.keyring_trait.specs.Saying.{said_last}
use Rattle.esdk_decrypt.proofs.Concluding.{memory_first, passed_on}
use Rattle.esdk_run.specs.UnarmouredDecrypt.{is_open}
use Rattle.esdk_run.proofs.UnarmouredDecryption.{decrypted_text, text_refused, text_undone}
use Rattle.esdk_run.proofs.Unarmouring.{reads_over, unread_text}
use Rattle.esdk_run.proofs.decrypt.decrypt_input.Goals as goal

-- ---- there is no buffer for the text

pub returns-in_default-clause-ends : goal.returns-in_default-clause-ends
returns-in_default-clause-ends g c =
    let m = g.M.Manager.state c.args.manager.now in
    rw c.if-not-armour.false (unread_text (g.S.Source.state c.args.input.now) _ (λ seen. (memory_first (said_last m m) 0 c.args.settings c.args.given.now seen, refl)))

-- ---- the text's end says nothing else

pub returns-clause-done : goal.returns-clause-done
returns-clause-done g c =
    let over = reads_over g.S.Source.state c.args.input.now _ c.over-text.result c.decrypt-ended.new.input c.judge_end-judged.new.text _ (is_open c.decrypt-ended.result) _
    (ap (λ t. t.now) c.over-text.ensures.text) (λ text. c.over-text.ensures.outlook text) c.over-text.ensures.none c.over-text.ensures.given c.over-text.ensures.faults c.over-text.ensures.goes c.over-text.ensures.came c.over-text.ensures.ended c.decrypt-ended.ensures.lasts.2 c.judge_end-judged.ensures.looks
    c.is_open.ensures c.in_ok-judged.ensures.sees c.in_ok-judged.ensures.passes
    (c.input-1.given.1 (sym (c.into_text.ensures.same ∙ c.judge_end-judged.ensures.same ∙ c.decrypt-ended.ensures.lasts.0 ∙ ap (λ t. t.ghost_name) c.over-text.ensures.text))
    ∙ c.into_text.ensures.now) in
    rw c.if-not-armour.false (decrypted_text _ _ 0 c.args.settings c.args.given.now _ _ _ _ _ _ (c.decrypt-ended.new.output ≡ c.args.output.now) c.decrypt-ended.result over c.decrypt-ended.ensures.done)

pub returns-clause-ends : goal.returns-clause-ends
returns-clause-ends g c =
    let over = reads_over g.S.Source.state c.args.input.now _ c.over-text.result c.decrypt-ended.new.input c.judge_end-judged.new.text _ (is_open c.decrypt-ended.result) _
    (ap (λ t. t.now) c.over-text.ensures.text) (λ text. c.over-text.ensures.outlook text) c.over-text.ensures.none c.over-text.ensures.given c.over-text.ensures.faults c.over-text.ensures.goes c.over-text.ensures.came c.over-text.ensures.ended c.decrypt-ended.ensures.lasts.2 c.judge_end-judged.ensures.looks
    c.is_open.ensures c.in_ok-judged.ensures.sees c.in_ok-judged.ensures.passes
    (c.input-1.given.1 (sym (c.into_text.ensures.same ∙ c.judge_end-judged.ensures.same ∙ c.decrypt-ended.ensures.lasts.0 ∙ ap (λ t. t.ghost_name) c.over-text.ensures.text))
    ∙ c.into_text.ensures.now) in
    rw c.if-not-armour.false (text_undone _ _ 0 c.args.settings c.args.given.now _ _ _ _ _ _ _ c.decrypt-ended.result over c.decrypt-ended.ensures.ends)

-- ---- it decides

pub returns-in_err-judged-clause-ends : goal.returns-in_err-judged-clause-ends
returns-in_err-judged-clause-ends g c =
    let over = reads_over g.S.Source.state c.args.input.now _ c.over-text.result c.decrypt-ended.new.input c.judge_end-judged.new.text _ (is_open c.decrypt-ended.result) _
    (ap (λ t. t.now) c.over-text.ensures.text) (λ text. c.over-text.ensures.outlook text) c.over-text.ensures.none c.over-text.ensures.given c.over-text.ensures.faults c.over-text.ensures.goes c.over-text.ensures.came c.over-text.ensures.ended c.decrypt-ended.ensures.lasts.2 c.judge_end-judged.ensures.looks
    c.is_open.ensures c.in_err-judged.ensures.sees c.in_err-judged.ensures.passes
    (c.input-1.given.1 (sym (c.into_text.ensures.same ∙ c.judge_end-judged.ensures.same ∙ c.decrypt-ended.ensures.lasts.0 ∙ ap (λ t. t.ghost_name) c.over-text.ensures.text))
    ∙ c.into_text.ensures.now) in
    let error = c.in_err-judged.field-0.0 in
    rw c.if-not-armour.false (passed_on _ c.from_residual.result error c.from_residual.ensures.1
    (text_refused _ _ 0 c.args.settings c.args.given.now _ _ _ _ _ _ _ c.decrypt-ended.result error over c.decrypt-ended.ensures.done c.decrypt-ended.ensures.ends))
