pub mod Decrypt
pub mod Told
pub mod Laws
pub mod Underway
pub mod Errors
