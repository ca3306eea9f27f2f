pub mod Apart
pub mod Clashing
pub mod Counted
pub mod Held
pub mod Listed
pub mod NameSets
pub mod Rows
