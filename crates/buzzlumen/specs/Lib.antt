-- Interface: all of Answers.
pub mod Answers
