-- What looking for an IV in an entry finds.
use Rattle.std.specs.Prelude.{◌≡◌, ℕ, true, false, List, Option, Some, None}
use Rattle.edk_codec.specs.Entry.{Entry}
use Rattle.keyring_trait.specs.Wrapping.{WrapKeyValue, iv_in, is_entry_of}

-- the IV, where the entry is one of this key; none where it is not
abbrev pub FindsIv : WrapKeyValue → Entry → Option (List ℕ) → Type 0
FindsIv w e (Some iv) = (is_entry_of w e ≡ true) × (iv ≡ iv_in w e)
FindsIv w e None = is_entry_of w e ≡ false
