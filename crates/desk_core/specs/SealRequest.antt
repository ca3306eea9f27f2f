-- What a message that is to be sealed is asked for with.
use Rattle.std.specs.Prelude.{ℕ, Option}
use Rattle.keyring_trait.specs.Requests.{EncRequestValue}

-- The request for materials, the frame length, and the limit on entries.
pub record SealRequestValue : Type 0 where
  pub wish : EncRequestValue
  pub size : ℕ
  pub max_keys : Option ℕ
