use Rattle.std.proofs.Common.{◌≡◌, ℕ, ◌*◌, ◌<◌, ◌≤◌, ◌++◌, get_or, bit_xor}
use Rattle.std.specs.Int.{w32, to_be_bytes}
use Rattle.cipher_spec.specs.Gcm.{counter, mask}
use Rattle.gcm_core.proofs.counter_mode.gctr_by_blocks.Given as goal

abbrev pub invariant-each : goal.invariant-each
invariant-each l = record {
  next : l.iv ++ to_be_bytes w32 l.count ≡ counter (l.iv ++ to_be_bytes w32 l.first) l.k;
  before : (j : ℕ) → j < 16 * l.k → get_or l.text j 0 ≡ bit_xor (get_or l.fn.text j 0) (mask l.key (l.iv ++ to_be_bytes w32 l.first) j);
  after : (j : ℕ) → 16 * l.k ≤ j → get_or l.text j 0 ≡ get_or l.fn.text j 0;
}
