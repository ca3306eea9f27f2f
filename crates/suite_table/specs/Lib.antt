pub mod Keys
pub mod Suites
pub mod Laws
