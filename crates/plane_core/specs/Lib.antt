pub mod Bits
pub mod Circuit
pub mod Grid
pub mod Places
