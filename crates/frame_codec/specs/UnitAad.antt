-- The data that is authenticated with a unit's content. Standard: AWS Encryption SDK Specification,
-- message body AAD.
use Rattle.std.specs.Prelude.{ℕ, List, ◌++◌, codes, replicate}
use Rattle.std.specs.Int.{w32, w64}
use Rattle.esdk_fields.specs.Numbers.{to_big_endian}
use Rattle.frame_codec.specs.declared.kinds.UnitKind.{UnitKind}
use Rattle.frame_codec.specs.declared.kinds.UnitKind.TheVariants.{Regular, Final, Single}

-- "Body AAD Content": the fixed text of each kind of unit
unfoldable pub kind_text : UnitKind → List ℕ
kind_text Regular = codes "AWSKMSEncryptionClient Frame"
kind_text Final = codes "AWSKMSEncryptionClient Final Frame"
kind_text Single = codes "AWSKMSEncryptionClient Single Block"

-- message id, fixed text, sequence number, content length
unfoldable pub unit_aad : List ℕ → UnitKind → ℕ → ℕ → List ℕ
unit_aad id kind number size =
    id ++ kind_text kind ++ to_big_endian w32 number ++ to_big_endian w64 size

-- the initialization vector that a frame is written with: its sequence number, padded on the left
-- with zeros to 12 bytes
unfoldable pub iv_of : ℕ → List ℕ
iv_of number = replicate 8 0 ++ to_big_endian w32 number
