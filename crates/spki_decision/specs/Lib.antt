-- Which certificates of a sequence pass their tests (RFC 2693, section 6).
pub mod CertificateTests
pub mod Judged
pub mod Spared
pub mod Granted
pub mod Answered
pub mod Requirements
pub mod Explained
pub mod Audited
pub mod Cost
pub mod Until
