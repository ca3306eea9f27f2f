-- After i turns `last` begins with T(i), and `out` with the first i blocks, as far as it goes.
use Rattle.std.proofs.Common.{◌≡◌, ◌≤◌, ◌*◌, length, take}
use Rattle.sha2.specs.Sha256.{sha256}
use Rattle.cipher_spec.specs.Hkdf.{output_block, output_blocks}
use Rattle.hkdf_core.proofs.hkdf_sha256.expand.Given as goal

abbrev pub invariant-each : goal.invariant-each
invariant-each l = record {
  within : l.held ≤ 32;
  held : take l.held l.last ≡ output_block sha256 64 l.key l.info l.i;
  done : take (32 * l.i) l.out ≡ take (length l.out) (output_blocks sha256 64 l.key l.info l.i);
}
