pub mod AdvancedForm
pub mod CanonicalTexts
pub mod Refusal
pub mod Reads
pub mod Sinks
pub mod Inner
