pub mod Values
pub mod Errors
