-- Definitions that only the contracts of private functions cite.
pub mod Begun
