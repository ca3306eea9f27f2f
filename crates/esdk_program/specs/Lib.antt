pub mod World
pub mod Effect
pub mod Program
pub mod Keeps
pub mod Laws
