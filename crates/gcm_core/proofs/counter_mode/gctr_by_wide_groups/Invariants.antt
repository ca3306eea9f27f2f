use Rattle.std.proofs.Common.{◌≡◌, ◌*◌, ◌++◌, take, drop}
use Rattle.std.specs.Int.{w32, to_be_bytes}
use Rattle.cipher_spec.specs.Gcm.{counter, gctr}
use Rattle.aes_core.specs.Counters.{IsPage}
use Rattle.gcm_core.proofs.counter_mode.gctr_by_wide_groups.Given as goal

abbrev pub invariant-groups : goal.invariant-groups
invariant-groups l = record {
  next : l.iv ++ to_be_bytes w32 l.count ≡ counter (l.iv ++ to_be_bytes w32 l.first) (16 * l.k);
  text : l.text ≡ gctr l.key (l.iv ++ to_be_bytes w32 l.first) (take (256 * l.k) l.fn.text) ++ drop (256 * l.k) l.fn.text;
  page : IsPage l.key l.iv l.page;
}
