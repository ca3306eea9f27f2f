-- After i turns `last` begins with T(i), and `out` with the first i blocks, as far as it goes.
use Rattle.std.proofs.Common.{◌≡◌, ◌≤◌, ◌*◌, length, take}
use Rattle.sha2.specs.Sha512.{sha512}
use Rattle.cipher_spec.specs.Hkdf.{output_block, output_blocks}
use Rattle.hkdf_core.proofs.hkdf_sha512.PseudorandomKey512.expand.Given as goal

abbrev pub invariant-each : goal.invariant-each
invariant-each l = record {
  within : l.held ≤ 64;
  held : take l.held l.last ≡ output_block sha512 128 l.self l.info l.i;
  done : take (64 * l.i) l.out ≡ take (length l.out) (output_blocks sha512 128 l.self l.info l.i);
}
