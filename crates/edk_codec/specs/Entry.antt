-- Encrypted data keys and their text. Standard: AWS Encryption SDK, message header, "Encrypted Data
-- Key Entries".
use Rattle.std.specs.Prelude.{ℕ, ◌≤◌, List, ◌++◌, length}
use Rattle.esdk_fields.specs.Sized.{sized}

-- key provider id, key provider information, encrypted data key
pub record Entry : Type 0 where
  pub provider : List ℕ
  pub info : List ℕ
  pub cipher : List ℕ

-- an entry's text: its three parts, each behind its length
unfoldable pub edk_text : Entry → List ℕ
edk_text e = sized e.provider ++ sized e.info ++ sized e.cipher

-- it has a text: two bytes hold the length of each part
pub record IsEntry (e : Entry) : Type 0 where
  pub provider : length e.provider ≤ 65535
  pub info : length e.info ≤ 65535
  pub cipher : length e.cipher ≤ 65535
