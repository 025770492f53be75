pub mod Asking
pub mod Service
