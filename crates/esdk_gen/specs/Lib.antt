pub mod Bytes
pub mod Generator
pub mod Sealing
pub mod Opening
pub mod Receivers
pub mod ReceiverLaws
