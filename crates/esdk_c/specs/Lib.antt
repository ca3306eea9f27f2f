pub mod Asking
pub mod Ranging
