-- What making a raw AES keyring answers.
use Rattle.std.specs.Prelude.{◌≡◌, ◌≢◌, Result, Ok, Err}
use Rattle.keyring_trait.specs.Wrapping.{WrapKeyValue}
use Rattle.raw_aes_keyring.specs.declared.raw_aes.RawError.{RawError}
use Rattle.raw_aes_keyring.specs.declared.raw_aes.RawError.TheVariants.{ReservedNamespace, Memory}
use Rattle.raw_aes_keyring.specs.RawKey.{reserved_namespace}

-- A keyring of this key; or the namespace is the reserved one, and only then is it refused. Memory
-- may run out only where it is not.
abbrev pub MakesKeyring : WrapKeyValue → Result WrapKeyValue RawError → Type 0
MakesKeyring w (Ok made) = (made ≡ w) × (w.namespace ≢ reserved_namespace)
MakesKeyring w (Err ReservedNamespace) = w.namespace ≡ reserved_namespace
MakesKeyring w (Err Memory) = w.namespace ≢ reserved_namespace
