pub mod Answering
pub mod Fronts
pub mod Keys
pub mod Rows
pub mod KeysRead
