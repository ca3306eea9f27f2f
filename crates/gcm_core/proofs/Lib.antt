pub mod Hashing
pub mod Blocks
pub mod EqualBytes
pub mod Counting
pub mod Groups
pub mod Masking
pub mod Opening
