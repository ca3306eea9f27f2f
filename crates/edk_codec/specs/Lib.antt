pub mod Entry
pub mod Equal
pub mod EntryReader
pub mod Parts
pub mod RawInfo
pub mod Laws
