pub mod Masks
pub mod KeyOver
