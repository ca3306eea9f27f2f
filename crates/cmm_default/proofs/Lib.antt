mod Passing
pub mod Refusals
pub mod Drawn
pub mod Faults
pub mod Found
pub mod Going
pub mod Twice
