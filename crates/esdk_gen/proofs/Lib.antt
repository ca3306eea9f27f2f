pub mod Sequence
mod Materials
mod Whole
mod Sealings
mod Openings
mod Told
