pub mod Program
pub mod Lines
pub mod Intersect
pub mod TextAnswers
pub mod HeldQuestions
pub mod Inner
