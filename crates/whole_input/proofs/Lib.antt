mod Adding
pub mod Agreeing
pub mod Coming
pub mod Fronts
