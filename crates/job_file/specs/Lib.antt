pub mod JobForm
pub mod JobFile
pub mod Jobs
pub mod Found
pub mod AuditForm
pub mod AuditFile
pub mod Audit
