pub mod BaseLines
pub mod Generations
pub mod Lines
pub mod Numbers
pub mod OnceTaken
pub mod Rounds
pub mod Texts
