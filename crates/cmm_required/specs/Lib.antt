pub mod RequiredCmm
