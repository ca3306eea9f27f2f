pub mod Gained
pub mod Members
pub mod NoValues
