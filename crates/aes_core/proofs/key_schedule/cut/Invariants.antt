use Rattle.std.proofs.Common.{◌≡◌, map, take, length}
use Rattle.std.specs.List.{range_with_len}
use Rattle.cipher_spec.specs.Aes.{round_key}
use Rattle.aes_core.proofs.key_schedule.cut.Given as goal

abbrev pub invariant-keys : goal.invariant-keys
invariant-keys l = record {
  done : take l.r l.keys ≡ map (round_key l.w) (range_with_len 0 l.r);
  long : length l.keys ≡ 15;
}
