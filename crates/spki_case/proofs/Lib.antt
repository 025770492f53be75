pub mod Building
pub mod FirstRun
pub mod Signed
pub mod OneCase
pub mod Lookups
pub mod RowFaults
