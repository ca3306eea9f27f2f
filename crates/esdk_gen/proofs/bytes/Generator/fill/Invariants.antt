use Rattle.std.proofs.Common.{◌≡◌, length, take}
use Rattle.esdk_gen.specs.Bytes.{gen_bytes, state_after}
use Rattle.esdk_gen.proofs.bytes.Generator.fill.Given as goal

abbrev pub invariant-loop-i : goal.invariant-loop-i
invariant-loop-i l = record {
  filled : take l.i l.out ≡ gen_bytes l.fn.self.state l.i;
  long : length l.out ≡ length l.fn.out;
  state : l.self.state ≡ state_after l.fn.self.state l.i;
}
