-- Definitions that only invariants of types and contracts of private functions cite.
pub mod Codes
