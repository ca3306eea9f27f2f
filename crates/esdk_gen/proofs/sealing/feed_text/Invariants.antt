use Rattle.std.proofs.Common.{◌≡◌, ℕ, ◌-◌, ◌≤◌, List, [], length}
use Rattle.stream_seal.specs.Session.{SealingValue}
use Rattle.esdk_gen.specs.Bytes.{gen_bytes, state_after}
use Rattle.esdk_gen.specs.Sealing.{GeneratorIsSealing, SealsText}
use Rattle.esdk_gen.proofs.sealing.feed_text.Given as goal

abbrev pub invariant-loop-left : goal.invariant-loop-left
invariant-loop-left l = record {
  within : l.left ≤ l.size;
  long : length l.piece ≡ 1000;
  state : l.text.state ≡ state_after l.fn.text.state (l.size - l.left);
  sealed : (key : List ℕ) (s : SealingValue) → GeneratorIsSealing l.fn.desk key l.id s l.fn.message → s.taken ≡ []
      → SealsText l.desk key l.id s (gen_bytes l.fn.text.state (l.size - l.left)) l.message;
}

abbrev pub decreases-loop-left : goal.decreases-loop-left
decreases-loop-left l = l.left
