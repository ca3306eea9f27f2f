use Rattle.std.proofs.Common.{◌≡◌, ◌*◌, take}
use Rattle.cipher_spec.specs.Ghash.{ghash_from}
use Rattle.cipher_spec.specs.Gcm.{blocks}
use Rattle.gcm_core.proofs.absorbing.absorb.Given as goal

abbrev pub invariant-groups : goal.invariant-groups
invariant-groups l = record {
  key : l.hash.key ≡ l.fn.hash.key;
  hash : l.hash.hash ≡ ghash_from l.fn.hash.key l.fn.hash.hash (blocks (take (64 * l.k) l.text));
}
