pub mod RealObjects
