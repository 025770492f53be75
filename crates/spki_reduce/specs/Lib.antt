-- Reduction of tuples (RFC 2693, section 6).
pub mod Reduction
pub mod Joining
pub mod Chain
pub mod Written
