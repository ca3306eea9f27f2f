use Rattle.std.proofs.Common.{◌≡◌, ◌*◌, ◌++◌, take, drop}
use Rattle.std.specs.Int.{w32, to_be_bytes}
use Rattle.cipher_spec.specs.Gcm.{counter, gctr}
use Rattle.gcm_core.proofs.counter_mode.gctr_by_pairs.Given as goal

abbrev pub invariant-pairs : goal.invariant-pairs
invariant-pairs l = record {
  next : l.iv ++ to_be_bytes w32 l.count ≡ counter (l.iv ++ to_be_bytes w32 l.first) (2 * l.k);
  text : l.text ≡ gctr l.key (l.iv ++ to_be_bytes w32 l.first) (take (32 * l.k) l.fn.text) ++ drop (32 * l.k) l.fn.text;
}
