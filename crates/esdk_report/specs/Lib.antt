pub mod Lines
pub mod ContextLine
pub mod Report
