-- Definitions that only the contracts of private functions cite.
pub mod PartFaults
pub mod Gathering
