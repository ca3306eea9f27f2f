pub mod Encrypt
pub mod Gaining
pub mod Writing
pub mod Asking
pub mod Told
pub mod Laws
pub mod Errors
