pub mod GcmLemmas
pub mod HkdfLemmas
pub mod HmacLemmas
pub mod KeyVectors
pub mod AesBytes
pub mod Computed
pub mod Inverses
