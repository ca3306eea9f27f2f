pub mod FileShelf
pub mod KnownFiles
pub mod Named
pub mod PartNames
pub mod RngEntropy
pub mod StdSink
pub mod StdSource
pub mod SystemClock
