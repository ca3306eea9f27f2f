-- They keep the laws of receivers, which an `impl` can cite from specs/ alone.
use Rattle.std.proofs.Common.{◌∙◌, ℕ, List, ◌++◌, sym, ap, append_assoc}
use Rattle.esdk_base.specs.Receiver.{Gathers}
use Rattle.session_parts.specs.Waiting.{GathersFront}

pub front_behind : (r s t first second : List ℕ) → Gathers r s first → GathersFront s t second
    → GathersFront r t (first ++ second)
front_behind r s t first second one two = record {
  front = first ++ two.front;
  rest = two.rest;
  cut = ap (λ (b : List ℕ). first ++ b) two.cut ∙ sym (append_assoc first two.front two.rest);
  gathered = two.gathered ∙ ap (λ (b : List ℕ). b ++ two.front) one
      ∙ append_assoc r first two.front;
}
