pub mod Listing
pub mod List
