pub mod BatchReport
pub mod Laws
