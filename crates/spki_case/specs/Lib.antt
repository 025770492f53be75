pub mod Case
pub mod Lookups
pub mod View
pub mod RowsForm
