pub mod Handed
pub mod Limits
pub mod Waiting
pub mod WaitingLaws
