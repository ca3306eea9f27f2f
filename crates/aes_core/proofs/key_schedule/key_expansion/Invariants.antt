use Rattle.std.proofs.Common.{◌≡◌, ◌-◌, take, length}
use Rattle.cipher_spec.specs.Aes.{words}
use Rattle.aes_core.proofs.key_schedule.key_expansion.Given as goal

abbrev pub invariant-words : goal.invariant-words
invariant-words l = record {
  done : take l.i l.w ≡ words l.key (l.i - 8);
  long : length l.w ≡ 60;
}
