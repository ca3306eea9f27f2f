pub mod Feeding
pub mod Taking
pub mod Errors
