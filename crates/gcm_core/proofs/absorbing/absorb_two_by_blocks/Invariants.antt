use Rattle.std.proofs.Common.{◌≡◌, ◌++◌, map}
use Rattle.std.specs.List.{range_with_len}
use Rattle.cipher_spec.specs.Ghash.{ghash_from}
use Rattle.cipher_spec.specs.Gcm.{block_at}
use Rattle.gcm_core.proofs.absorbing.absorb_two_by_blocks.Given as goal

abbrev pub invariant-each : goal.invariant-each
invariant-each l = record {
  key : l.hash.key ≡ l.fn.hash.key;
  hash : l.hash.hash ≡ ghash_from l.fn.hash.key l.fn.hash.hash (map (block_at (l.first ++ l.second)) (range_with_len 0 l.k));
}
