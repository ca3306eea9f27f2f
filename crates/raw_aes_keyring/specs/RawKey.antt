-- The wrapping key of a raw AES keyring. AWS Encryption SDK Specification, "Raw AES Keyring",
-- Initialization.
use Rattle.std.specs.Prelude.{◌≢◌, ℕ, ◌≤◌, List, length, codes}
use Rattle.keyring_trait.specs.Wrapping.{WrapKeyValue}

-- the namespace that is kept for AWS KMS keyrings
abbrev pub reserved_namespace : List ℕ
reserved_namespace = codes "aws-kms"

-- What the type of raw AES keyrings keeps.
pub record IsRawKey (w : WrapKeyValue) : Type 0 where
  pub namespace : length w.namespace ≤ 1024
  pub name : length w.name ≤ 1024
  pub unreserved : w.namespace ≢ reserved_namespace
