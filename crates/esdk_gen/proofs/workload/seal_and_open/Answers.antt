use Rattle.std.proofs.Common.{◌≡◌, ◌∙◌, ℕ, List, arith, subst, sym}
use Rattle.std.proofs.lemmas.Result.{IfOk-weaker}
use Rattle.esdk_gen.specs.Bytes.{gen_bytes}
use Rattle.esdk_gen.specs.Generator.{generator_line}
use Rattle.esdk_gen.specs.Opening.{IsWholeUnder}
use Rattle.esdk_gen.proofs.Sequence.{length-gen_bytes}
use Rattle.esdk_gen.proofs.Whole.{with_is_whole}
use Rattle.esdk_gen.proofs.workload.seal_and_open.Goals as goal

pub open-requires : goal.open-requires
open-requires c =
    let (key, idle) = c.requires.idle in
    let text : List ℕ = gen_bytes c.args.text.now.state c.args.size in
    let message = c.bytes.ensures ∙ c.in_ok-message.ensures.message key idle in (
      key,
      text,
      c.in_ok-message.ensures.idle key idle,
      subst (λ (b : List ℕ). IsWholeUnder key b text) (sym message) (with_is_whole key c.args.random.now text (omega arith) (omega (arith, length-gen_bytes c.args.text.now.state c.args.size))),
    )

pub returns : goal.returns
returns c = λ key idle.
    let text : List ℕ = gen_bytes c.args.text.now.state c.args.size in
    let message = c.bytes.ensures ∙ c.in_ok-message.ensures.message key idle in
    let whole = subst (λ (b : List ℕ). IsWholeUnder key b text) (sym message) (with_is_whole key c.args.random.now text (omega arith) (omega (arith, length-gen_bytes c.args.text.now.state c.args.size))) in
    let opened : c.in_ok-opened.opened ≡ c.args.size = c.in_ok-opened.ensures key text (c.in_ok-message.ensures.idle key idle) whole ∙ length-gen_bytes c.args.text.now.state c.args.size in
    let same = c.bytes-2.ensures ∙ c.in_ok-message.ensures.message key idle in
    IfOk-weaker c.line.result _ _ (λ line is. is ∙ (λ i. generator_line c.args.size (same i) (opened i))) c.line.ensures
