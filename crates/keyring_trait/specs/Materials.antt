-- What a materials manager hands out. AWS Encryption SDK Specification, "Structures", Encryption
-- Materials and Decryption Materials.
use Rattle.std.specs.Prelude.{ℕ, ◌≤◌, List, All, length}
use Rattle.context_codec.specs.Context.{KeyValue}
use Rattle.edk_codec.specs.Entry.{Entry, IsEntry}
use Rattle.keyring_trait.specs.declared.served.Served.{Served}
use Rattle.keyring_trait.specs.Requests.{AllHeld}

-- To encrypt with: the whole context, the keys of it that a reader has to give, the data key, the
-- entries that hold it wrapped, and how it was served.
pub record EncMaterialsValue : Type 0 where
  pub context : List KeyValue
  pub required : List (List ℕ)
  pub key : List ℕ
  pub entries : List Entry
  pub served : Served

-- To decrypt with: the whole context, its pairs that are only authenticated, the data key, and how
-- it was served.
pub record DecMaterialsValue : Type 0 where
  pub context : List KeyValue
  pub only : List KeyValue
  pub key : List ℕ
  pub served : Served

-- What the type of encryption materials keeps.
pub record AreEncMaterials (context : List KeyValue) (required : List (List ℕ))
    (entries : List Entry) : Type 0 where
  pub some : 1 ≤ length entries
  pub few : length entries ≤ 64
  pub each : All IsEntry entries
  pub held : AllHeld context required
