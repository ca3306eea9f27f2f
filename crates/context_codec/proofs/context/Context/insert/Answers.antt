use Rattle.std.proofs.Common.{◌≡◌, ℕ, ◌≤◌, List, subst, rules, arith}
use Rattle.context_codec.specs.Context.{KeyValue}
use Rattle.context_codec.specs.Placing.{IsPlace}
use Rattle.context_codec.specs.Insert.{grown}
use Rattle.context_codec.proofs.Growth.{grown_context}
use Rattle.context_codec.proofs.context.Context.insert.Goals as goal

pub invariant_of-self-2 : goal.invariant_of-self-2
invariant_of-self-2 c =
    let pairs = c.self.inside.pairs.items in
    let n : ℕ = c.grown_len-grown.result in
    let short : n ≤ 65535 = omega arith in
    let place : IsPlace c.args.key.now pairs c.in-Err.at = subst (λ (ps : List KeyValue). IsPlace c.args.key.now ps c.in-Err.at) c.deref.ensures.value c.in-Err.ensures in
    let len : n ≡ grown pairs (c.args.key.now, c.args.value.now) = subst (λ (ps : List KeyValue). n ≡ grown ps (c.args.key.now, c.args.value.now)) c.deref-2.ensures.value c.grown_len-grown.ensures in
    grown_context pairs c.in-Err.at c.args.key.now c.args.value.now n c.insert.new.self.items c.self.invariant.0 c.utf8.key c.utf8.value place short len (search rules)
