pub mod Clock
pub mod Entropy
pub mod Receiver
pub mod ReceiverLaws
pub mod Shelf
pub mod Sink
pub mod Streams
pub mod Told
