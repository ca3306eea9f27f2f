pub mod KeyLemmas
pub mod SuiteLemmas
