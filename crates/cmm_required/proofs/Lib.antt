pub mod Absent
pub mod Encrypting
pub mod Decrypting
pub mod Going
pub mod Twice
