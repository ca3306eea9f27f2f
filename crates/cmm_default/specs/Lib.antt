pub mod DefaultCmm
pub mod Steps
