pub mod RawKey
pub mod Made
pub mod Finding
pub mod Keyring
