pub mod Column
pub mod Counters
pub mod Groups
pub mod PlaneKeys
