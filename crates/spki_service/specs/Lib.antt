-- The access list that a service has, and the questions that are put to it.
pub mod AccessLists
pub mod Questions
pub mod GuardQuestions
pub mod TextLists
pub mod Replayed
pub mod Cost
