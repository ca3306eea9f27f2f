mod Contexts
pub mod Crosses
mod Handing
mod NewKeys
mod Openings
mod Ranges
mod Resealings
mod Sealings
mod Sessions
mod Trays
mod Trees
mod Wholes
