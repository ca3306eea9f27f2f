pub mod Answers
pub mod Keydir
pub mod Reading
pub mod KeysRead
