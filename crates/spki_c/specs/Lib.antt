pub mod Asking
pub mod Guards
pub mod Results
pub mod Pointers
pub mod Strings
pub mod Readables
pub mod HandleValues
pub mod Until
