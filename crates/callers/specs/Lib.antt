pub mod Opening
pub mod Resealing
