use Rattle.std.proofs.Common.{◌≡◌, ◌∷◌, ◌++◌, ℕ, List, [], arith, sym, ◌∙◌, ap, length}
use Rattle.std.proofs.lemmas.List.{length-set, take_all, take_more_set}
use Rattle.esdk_gen.specs.Bytes.{top_byte, gen_bytes, next_state, state_after}
use Rattle.esdk_gen.proofs.Sequence.{bytes_none, bytes_push, state_none, state_push}
use Rattle.esdk_gen.proofs.bytes.Generator.fill.Goals as goal

pub loop-i-init : goal.loop-i-init
loop-i-init c = record {
  filled = sym (bytes_none c.args.self.now.state);
  long = omega arith;
  state = sym (state_none c.args.self.now.state);
}

pub loop-i-preserved : goal.loop-i-preserved
loop-i-preserved c =
    let x : ℕ = c.args.self.now.state in
    let n : ℕ = c.loop-i.i in
    let before = c.loop-i.invariant in
    let byte : c.next.result ≡ top_byte (next_state (state_after x n)) = c.next.ensures.byte ∙ ap (λ (s : ℕ). top_byte (next_state s)) before.state in
    record {
      filled = take_more_set c.loop-i.out n c.next.result (omega arith) ∙ ap (λ (l : List ℕ). l ++ c.next.result ∷ []) before.filled
          ∙ ap (λ (b : ℕ). gen_bytes x n ++ b ∷ []) byte ∙ sym (bytes_push x n);
      long = length-set c.loop-i.out n c.next.result ∙ before.long;
      state = c.next.ensures.state ∙ ap next_state before.state ∙ sym (state_push x n);
    }

pub returns-clause-bytes : goal.returns-clause-bytes
returns-clause-bytes c =
    let all : c.loop-i.i ≡ length c.args.out.now = omega arith in
    sym (take_all c.loop-i.i c.loop-i.out (omega arith)) ∙ c.loop-i.invariant.filled ∙ ap (gen_bytes c.args.self.now.state) all

pub returns-clause-state : goal.returns-clause-state
returns-clause-state c =
    let all : c.loop-i.i ≡ length c.args.out.now = omega arith in c.loop-i.invariant.state ∙ ap (state_after c.args.self.now.state) all
