-- A keyring of one wrapping key, whose bytes stand in a file of a shelf.
-- AWS Encryption SDK Specification, "Raw AES Keyring".
use Rattle.std.specs.Prelude.{◌≡◌, ◌≢◌, ℕ, List, [], ◌∷◌, map, false, Some, None, Result, Ok, Err}
use Rattle.std.specs.Option.{option_map}
use Rattle.esdk_base.specs.Streams.{ShelfState}
use Rattle.keyring_trait.specs.Wrapping.{WrapKeyValue}
use Rattle.keyring_trait.specs.Keyring.{KeyringMeaning}
use Rattle.keyring_trait.specs.Uses.{ReadAnew}
use Rattle.raw_aes_keyring.specs.declared.raw_aes.RawError.{RawError}
use Rattle.raw_aes_keyring.specs.declared.raw_aes.RawError.TheVariants.{ReservedNamespace, Memory}
use Rattle.raw_aes_keyring.specs.RawKey.{reserved_namespace}
use Rattle.keydir_keyring.specs.KeysRead.{keys_read}
use Rattle.keydir_keyring.specs.Reading.{told_key}

-- The shelf, the file's name on it, the namespace and the name of the wrapping key, and how often
-- the keyring failed.
pub record KeydirValue (S : Type 0) : Type 0 where
  pub shelf : S
  pub file : List ℕ
  pub namespace : List ℕ
  pub name : List ℕ
  pub faults : ℕ

-- A keyring that was made so; or the namespace is the reserved one, and only then is it refused.
-- Memory may run out only where it is not.
abbrev pub MakesKeydir : {S : Type 0} → KeydirValue S → Result (KeydirValue S) RawError → Type 0
MakesKeydir k (Ok made) = (made ≡ k) × (k.namespace ≢ reserved_namespace)
MakesKeydir k (Err ReservedNamespace) = k.namespace ≡ reserved_namespace
MakesKeydir k (Err Memory) = k.namespace ≢ reserved_namespace

-- the wrapping key of these bytes, which isn't retired
abbrev pub keydir_key : {S : Type 0} → KeydirValue S → List ℕ → WrapKeyValue
keydir_key k bytes = record { namespace = k.namespace; name = k.name; key = bytes; retired = false }

-- It tells its one wrapping key where its shelf tells a file of 32 bytes; it makes one entry,
-- refuses nothing, and counts its own failures. It shows that its key is read anew in each call,
-- and which keys the calls of its shelf read so far, whether the shelf tells its files or not.
abbrev pub keydir_meaning : {S : Type 0} → (S → ShelfState) → KeydirValue S → KeyringMeaning
keydir_meaning state k = record {
  keys = option_map (λ bytes. keydir_key k bytes ∷ []) (told_key (state k.shelf).files k.file);
  wraps = 1;
  refuses_key = None;
  refuses_none = None;
  faults = k.faults;
  steady = false;
  uses = Some (ReadAnew (map (keydir_key k) (keys_read k.file [] (state k.shelf).calls)) ∷ []);
}
