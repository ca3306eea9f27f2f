pub mod File
pub mod Pieces
pub mod Taken
pub mod Written
pub mod FileReads
pub mod FileReadsLaws
pub mod FileSource
pub mod FileSourceLaws
