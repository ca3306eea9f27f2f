use Rattle.std.proofs.Common.{◌≡◌, ◌*◌, ◌++◌, take, drop}
use Rattle.std.specs.Int.{w32, to_be_bytes}
use Rattle.cipher_spec.specs.Ghash.{ghash_from}
use Rattle.cipher_spec.specs.Gcm.{blocks, counter, gctr}
use Rattle.gcm_core.proofs.seal.encipher_and_absorb.Given as goal

abbrev pub invariant-pieces : goal.invariant-pieces
invariant-pieces l = record {
  next : l.iv ++ to_be_bytes w32 l.count ≡ counter (l.iv ++ to_be_bytes w32 2) (256 * l.k);
  text : l.text ≡ gctr l.key (l.iv ++ to_be_bytes w32 2) (take (4096 * l.k) l.fn.text) ++ drop (4096 * l.k) l.fn.text;
  key : l.hash.key ≡ l.fn.hash.key;
  hash : l.hash.hash ≡ ghash_from l.fn.hash.key l.fn.hash.hash (blocks (gctr l.key (l.iv ++ to_be_bytes w32 2) (take (4096 * l.k) l.fn.text)));
}
