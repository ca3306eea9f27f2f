pub mod Openers
pub mod Messages
pub mod Lines
pub mod Asking
pub mod Taking
pub mod MessageFiles
pub mod Laws
pub mod Errors
