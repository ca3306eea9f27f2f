use Rattle.std.proofs.Common.{◌≡◌, ◌∙◌, ℕ, ap}
use Rattle.std.proofs.lemmas.Result.{IfOk-weaker}
use Rattle.esdk_gen.specs.Bytes.{gen_bytes, state_after}
use Rattle.esdk_gen.proofs.Told.{line_is}
use Rattle.esdk_gen.proofs.workload.gen_text.Goals as goal

pub seal_and_open-requires-clause-idle : goal.seal_and_open-requires-clause-idle
seal_and_open-requires-clause-idle c = (c.fill.new.out, c.in_ok-desk.ensures)

pub returns : goal.returns
returns c =
    let seed = c.new-bytes.ensures in
    let first : c.fill.new.self.state ≡ state_after c.args.seed 32 = c.fill.ensures.state ∙ ap (λ (x : ℕ). state_after x 32) seed in
    IfOk-weaker c.seal_and_open.result _ _
    (λ line is. is ∙ line_is c.args.seed c.args.size c.fill.new.out c.fill-2.new.out c.fill-2.new.self.state (c.fill.ensures.bytes ∙ ap (λ (x : ℕ). gen_bytes x 32) seed)
    (c.fill-2.ensures.bytes ∙ ap (λ (x : ℕ). gen_bytes x 76) first) (c.fill-2.ensures.state ∙ ap (λ (x : ℕ). state_after x 76) first))
    (c.seal_and_open.ensures c.fill.new.out c.in_ok-desk.ensures)
