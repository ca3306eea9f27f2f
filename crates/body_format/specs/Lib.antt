pub mod Rows
pub mod Body
pub mod Table
pub mod Written
pub mod Laws
pub mod OneSlot
