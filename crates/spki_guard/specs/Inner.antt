-- Definitions that only the contracts of private functions cite.
pub mod Capped
pub mod Prints
pub mod Pages
