pub mod Infos
pub mod Entry
