pub mod Extracted
pub mod ReadAhead
pub mod Slots
pub mod Extract
pub mod Laws
pub mod Errors
