-- What a hasher is, seen from outside.
use Rattle.std.specs.Prelude.{ℕ}

-- the hash subkey, and the hash of the blocks so far, both as numbers with the first bit highest
pub record HashState : Type 0 where
  pub key : ℕ
  pub hash : ℕ
