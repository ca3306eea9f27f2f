pub mod Field
pub mod Aes
pub mod Hkdf
pub mod Hmac
pub mod Ghash
pub mod Gcm
