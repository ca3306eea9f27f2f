pub mod Entries
pub mod Keeping
pub mod Asking
pub mod Fitting
pub mod Inner
pub mod Tallies
pub mod Ways
pub mod Recorded
pub mod Bearing
pub mod Meanings
pub mod Gives
pub mod Finds
pub mod Whole
pub mod Sealed
pub mod Opened
pub mod Making
mod Rows
pub mod Twice
