pub mod Entries
pub mod OneKey
