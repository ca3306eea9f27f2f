pub mod CallPlan
pub mod ListClock
pub mod ListEntropy
pub mod MemFile
pub mod MemFiles
pub mod MemShelf
pub mod MemSink
pub mod MemSource
