-- A key together with the associated data of the texts that it opens.
use Rattle.std.specs.Prelude.{ℕ, List}

-- the 32 bytes of the key, and the associated data
pub record KeyOver : Type 0 where
  pub key : List ℕ
  pub aad : List ℕ
