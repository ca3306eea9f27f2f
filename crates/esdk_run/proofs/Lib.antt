pub mod Promised
pub mod ArmouredMessage
pub mod Asked
pub mod Given
pub mod Auditing
pub mod AuditDone
pub mod Chain
pub mod Keys
pub mod ByUse
pub mod Endings
pub mod Files
pub mod FormatFaults
pub mod Preparing
pub mod Statuses
pub mod Reading
pub mod TreesBack
pub mod Unarmouring
pub mod UnarmouredDecryption
pub mod UnarmouredListing
pub mod UnarmouredMaps
pub mod UnarmouredReaders
pub mod UnarmouredTelling
pub mod Encryption
pub mod EarlyEnds
pub mod Migration
pub mod Decryption
pub mod Extraction
pub mod BatchMore
pub mod Serving
pub mod Showing
pub mod Batches
pub mod ReadJobs
pub mod EachJob
pub mod DoneJobs
mod Ages
mod Keeping
mod Promising
pub mod Unplugged
pub mod Resealing
pub mod ResealTold
mod FilesCame
mod WhatCame
