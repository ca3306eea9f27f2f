pub mod Message
pub mod Judgement
pub mod Reading
pub mod Laws
pub mod Legacy
pub mod Unlocking
pub mod UnlockErrors
