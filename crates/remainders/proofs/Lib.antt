pub mod Answers
pub mod Service
